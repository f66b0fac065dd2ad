-- What the values of render.rt say of the definitions' ones.
use Rattle.std.specs.Prelude.{◌≡◌, Bool, true, false, not, ◌&&◌, ◌||◌, length, take, drop, get_or, leb, ltb}
use Prim.Native.Nat.{ℕ, ◌+◌, ◌*◌, ◌≤◌, ◌<◌, ◌^◌}
use Rattle.std.proofs.Math.Bool.{cond}
use mathlib.Core.List.{List, [], ◌∷◌, ◌++◌}
use Rattle.std.proofs.Math.Option.{Option, none, some}
use Rattle.std.proofs.Math.Dec.{eqb}
use Rattle.buffer.specs.Sink.{sink, emit}
use Rattle.text.specs.Utf8.{Scalar}
use Rattle.text.specs.Class.{Profile}
use Rattle.text.specs.Class.Code.{profile_of}
use Rattle.spans.specs.Sequence.{Sequence, sgr, erase_to_end, ignored, hyperlink, line_drawing, Found, found, missing, parse}
use Rattle.spans.specs.Spans.{Record}
use Rattle.spans.specs.Spans.ContentLaw.{text_in}
use Rattle.spans.specs.Sgr.Contracts.{orders_at}
use Rattle.spans.specs.declared.sequence.Sequence as sequence
use Rattle.spans.specs.declared.sequence.Sequence.TheVariants as sequences
use Rattle.drawing.specs.Marks.{byte_mark, line_drawn}
use Rattle.drawing.specs.Change.{Change, clear_to_end, encode}
use Rattle.drawing.specs.Change as change
use Rattle.drawing.specs.Draw.{State, Sent, sent, write_truncated, write_marks, render_sequence, left_arrow, right_arrow, close_window, close_rows}
use Rattle.drawing.specs.Reader.HiddenUris.{uri_length}
use Rattle.drawing.specs.Attributes.Code.{style_of}
use Rattle.drawing.specs.State.{state_of, Wrote, new_state}
use Rattle.drawing.specs.Hyperlink.{linked_to}
use Rattle.drawing.specs.LineDrawing.{shown_text}
use Rattle.drawing.specs.Marks.Contracts.{composed_style, composed_text}
use Rattle.drawing.specs.declared.attributes.Style as style
use Rattle.std.specs.Prelude as code
use Rattle.std.specs.Prelude.{MatchResult}
use Rattle.text.specs.declared.refusal.Refusal.{Refusal}
use Rattle.text.specs.declared.refusal.Refusal.TheVariants.{NoSuchReader}
use Rattle.drawing.specs.declared.reader.Reader.{Reader}
use Rattle.drawing.specs.declared.reader.Reader.TheVariants.{Bench, Crew}
use Rattle.drawing.specs.declared.render.Edges.{Edges}
use Rattle.drawing.specs.declared.render.Edges.TheVariants as edges
use Rattle.drawing.specs.declared.attributes.Style.TheVariants.{File, Match, CurrentMatch}
use Rattle.drawing.specs.declared.state.AttributeState.{AttributeState}
use Rattle.drawing.specs.declared.state.Drawn.{Drawn}
use Rattle.drawing.specs.declared.render.Rendering.{Rendering}

-- no match is the largest usize
abbrev pub largest : ℕ
largest = 0xFFFF_FFFF_FFFF_FFFF

abbrev pub current_of : ℕ → Option ℕ
current_of n = cond (eqb n largest) none (some n)

abbrev pub current_in : code.Option ℕ → Option ℕ
current_in code.None = none
current_in (code.Some n) = some n

-- the style of a match, the current one or another, and of a Text
abbrev pub match_style : code.Option ℕ → ℕ → style.Style
match_style code.None matched = Match
match_style (code.Some current) matched = cond (eqb current matched) CurrentMatch Match

abbrev pub record_style : ℕ → code.Option ℕ → ℕ → style.Style
record_style kind current matched = cond (eqb kind 1) File (match_style current matched)

-- a reader's number, or a refusal where none has it
abbrev pub reader_number : Reader → ℕ
reader_number Bench = 0
reader_number Crew = 1

abbrev pub Numbered : ℕ → code.Result Reader Refusal → Type 0
Numbered n r = MatchResult r (λ x. reader_number x ≡ n) (λ e. (e ≡ NoSuchReader) × (1 < n))

abbrev pub is_crew : Reader → Bool
is_crew Bench = false
is_crew Crew = true

-- the state after the hyperlink that stands at a place
pub record Linkable (place : ℕ) (q : sequence.Sequence) : Type 0 where
  pub near : place ≤ 32768
  pub from : (p n k : ℕ) → q ≡ sequences.Hyperlink p n k → p ≤ 65536

unfoldable pub linked_by : (crew : Bool) → AttributeState → ℕ → sequence.Sequence → AttributeState
linked_by crew t place (sequences.Hyperlink p n k) = linked_to t (record { place = record { 0 = place + p }; len = uri_length crew n })
linked_by crew t place (sequences.Sgr n) = t
linked_by crew t place (sequences.EraseToEnd n) = t
linked_by crew t place (sequences.Ignored n) = t
linked_by crew t place (sequences.LineDrawing b n) = t

-- the sequence that a record of a kind at a place of the line stands for, as the crew or the bench is shown it
unfoldable pub link_in : (crew : Bool) → Found → Sequence
link_in crew missing = ignored
link_in crew (found (hyperlink a n) k) = hyperlink a (uri_length crew n)
link_in crew (found (sgr os) k) = ignored
link_in crew (found erase_to_end k) = ignored
link_in crew (found ignored k) = ignored
link_in crew (found (line_drawing b) k) = ignored

unfoldable pub record_sequence : (crew : Bool) → List ℕ → (kind place : ℕ) → Sequence
unfolding link_in parse
record_sequence crew line kind place =
    cond (leb (length line) place) ignored
    (cond (eqb kind 6) (sgr (orders_at line (place + 2)))
    (cond (eqb kind 7) (link_in crew (parse (drop (place + 1) line)))
    (cond (eqb kind 8) (line_drawing (eqb (get_or line (place + 2) 0) 0x30))
    (cond (eqb kind 13) erase_to_end ignored))))

-- the state after it
pub record SequenceDone (crew : Bool) (line : List ℕ) (kind place : ℕ) (t r : AttributeState) : Type 0 where
  pub state : (P : Profile) (start end : ℕ) → state_of r ≡ render_sequence P start end (state_of t) place (record_sequence crew line kind place)
  pub torn : r.torn ≡ t.torn

-- a line, and room for the columns of a span
pub record SpanReady (line : List ℕ) (t : AttributeState) : Type 0 where
  pub short : length line ≤ 32768
  pub room : t.position.0 + (20 * length line + 16) < 2 ^ 64

-- what records of the line send
module _ (d : Rendering) (line : List ℕ) where
  unfoldable pub render_record : State → Record → Sent
  unfolding write_truncated write_marks render_sequence text_in line_drawn record_sequence byte_mark style_of
  render_record t r =
      let P : Profile = profile_of d.window.profile in
      let start : ℕ = d.window.start.0 in
      let end : ℕ = d.window.end.0 in
      let part : List Scalar = text_in r.len (drop r.place.0 line) in
      cond (eqb r.kind 1 || eqb r.kind 2) (write_truncated P start end t (style_of (record_style r.kind d.view.current r.matched)) (shown_text t.line_drawing part))
      (cond (eqb r.kind 3 || (eqb r.kind 4 || eqb r.kind 10)) (write_truncated P start end t (style_of (composed_style r.kind)) (composed_text r.kind (get_or line r.place.0 0) t.position))
      (cond (eqb r.kind 5) (write_marks P start end t part)
      (sent [] (render_sequence P start end t r.place.0 (record_sequence (is_crew d.view.reader) line r.kind r.place.0)))))

  unfoldable pub render_records : State → List Record → Sent
  unfolding render_record
  render_records t [] = sent [] t
  render_records t (r ∷ rs) =
      let first : Sent = render_record t r in
      let rest : Sent = render_records first.after rs in
      sent (first.changes ++ rest.changes) rest.after

-- one span drawn
pub record SpanDrawn (d : Rendering) (line l : List ℕ) (at : ℕ) (t : AttributeState) (r : Record) (l' : List ℕ) (at' : ℕ) (t' : AttributeState) : Type 0 where
  pub wrote : Wrote l at t (render_record d line (state_of t) r) l' at' t'
  pub near : t'.position.0 ≤ t.position.0 + (20 * length line + 16)

-- ---- all spans

-- before the spans
abbrev pub opening : Edges → List Change
opening (edges.Window arrow) = cond arrow left_arrow []
opening (edges.Rows room) = []

-- after the spans, but for the default attributes
abbrev pub closing_window : ℕ → State → List Change
closing_window end t = cond (ltb end t.position) right_arrow (cond (ltb t.position end) (clear_to_end t.end_of_line ∷ []) [])

abbrev pub closing_rows : Bool → State → List Change
closing_rows room t = cond room (clear_to_end t.end_of_line ∷ []) []

abbrev pub closing_edge : Edges → (end : ℕ) → State → List Change
closing_edge (edges.Window arrow) end t = closing_window end t
closing_edge (edges.Rows room) end t = closing_rows room t

abbrev pub closing : Edges → (end : ℕ) → State → List Change
closing (edges.Window arrow) end t = close_window end t
closing (edges.Rows room) end t = close_rows room t

pub record Closed (d : Rendering) (l : List ℕ) (at : ℕ) (t : AttributeState) (l' : List ℕ) (r : Drawn) : Type 0 where
  pub bytes : sink l' r.at ≡ emit (sink l at) (encode (closing d.edges d.window.end.0 (state_of t)))
  pub torn : r.torn ≡ t.torn

-- spans few enough that all columns fit a usize
pub record RenderRoom (spans : List Record) (line : List ℕ) : Type 0 where
  pub few : length spans ≤ 32768
  pub short : length line ≤ 32768

-- what records of the line send from the beginning on
abbrev pub rendered : Rendering → List ℕ → List Record → Sent
rendered d line rs = render_records d line (state_of new_state) rs

pub record Rendered (d : Rendering) (line : List ℕ) (rs : List Record) (l l' : List ℕ) (r : Drawn) : Type 0 where
  pub bytes : sink l' r.at ≡ emit (sink l 0) (encode (opening d.edges ++ ((rendered d line rs).changes ++ closing d.edges d.window.end.0 (rendered d line rs).after)))
  pub torn : r.torn ≡ not (change.whole (rendered d line rs).changes)
