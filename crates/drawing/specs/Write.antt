-- What the contracts of src/write.rt say: texts in a window.
use Rattle.std.specs.Prelude.{◌≡◌, ℕ, ◌+◌, ◌-◌, ◌*◌, ◌≤◌, ◌<◌, ◌^◌, true, not, List, [], ◌∷◌, length}
use Rattle.buffer.specs.Sink.{sink, emit}
use Rattle.text.specs.Utf8.{Scalar}
use Rattle.text.specs.Class.{Profile}
use Rattle.text.specs.Class.Code.{profile_of}
use Rattle.text.specs.Printable.{all_printable}
use Rattle.text.specs.TextParts.{text_at, Measured}
use Rattle.text.specs.declared.TextPart.{TextPart}
use Rattle.drawing.specs.Clip.{clip}
use Rattle.drawing.specs.Change.{Change, encode_one, clipped}
use Rattle.drawing.specs.Change as change
use Rattle.drawing.specs.Draw.{Sent, write_truncated}
use Rattle.drawing.specs.declared.attributes.Style as code
use Rattle.drawing.specs.declared.state.AttributeState.{AttributeState}
use Rattle.drawing.specs.declared.state.Drawn.{Drawn}
use Rattle.drawing.specs.declared.write.Window.{Window}
use Rattle.drawing.specs.Attributes.Code.{style_of}
use Rattle.drawing.specs.State.{state_of}
use Rattle.drawing.specs.LineDrawing.{shown_text}

-- the change that a text at a position sends into a window
abbrev pub windowed_text : Window → ℕ → List Scalar → Change
windowed_text w p x = clipped (clip (profile_of w.profile) (w.start.0 - p) (w.end.0 - p - (w.start.0 - p)) x)

-- a text change, and whether it is torn
pub record TextDrawn (l : List ℕ) (at : ℕ) (c : Change) (l' : List ℕ) (r : Drawn) : Type 0 where
  pub bytes : sink l' r.at ≡ emit (sink l at) (encode_one c)
  pub torn : r.torn ≡ not (change.whole (c ∷ []))

-- a text that was measured, and is short enough for its copy
pub record PartReady (P : Profile) (s : List ℕ) (m : TextPart) : Type 0 where
  pub all : Measured P s 0 (text_at s 0) m
  pub short : length s ≤ 32768

-- a text, and room for its columns
pub record WriteReady (s : List ℕ) (t : AttributeState) : Type 0 where
  pub short : length s ≤ 32768
  pub room : t.position.0 + 2 * length s < 2 ^ 64

-- printable bytes, and room for their columns
pub record ColumnsReady (s : List ℕ) (t : AttributeState) : Type 0 where
  pub printable : all_printable s ≡ true
  pub room : t.position.0 + length s < 2 ^ 64

-- a text in a window, as line drawing shows it
abbrev pub writing : Window → List ℕ → AttributeState → code.Style → Sent
writing w s t k = write_truncated (profile_of w.profile) w.start.0 w.end.0 (state_of t) (style_of k) (shown_text t.drawing (text_at s 0))

-- the same where line drawing has no part in it
abbrev pub writing_columns : Window → List ℕ → AttributeState → code.Style → Sent
writing_columns w s t k = write_truncated (profile_of w.profile) w.start.0 w.end.0 (state_of t) (style_of k) (text_at s 0)
