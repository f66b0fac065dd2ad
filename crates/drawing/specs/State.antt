-- What the contracts of src/state.rt say: the attribute state, and what is sent with it.
use Rattle.std.specs.Prelude.{◌≡◌, ℕ, ◌+◌, Bool, true, false, not, ◌||◌, List}
use Rattle.buffer.specs.Sink.{sink, emit}
use Rattle.spans.specs.declared.sgr.Color.TheVariants.{Default}
use Rattle.drawing.specs.Attributes.{plain}
use Rattle.drawing.specs.Attributes.Code.{style_of}
use Rattle.drawing.specs.Change.{encode}
use Rattle.drawing.specs.Change as change
use Rattle.drawing.specs.Draw.{State, Sent, state, style}
use Rattle.drawing.specs.declared.attributes.Attributes.{Attributes}
use Rattle.drawing.specs.declared.attributes.Style as code
use Rattle.drawing.specs.declared.attributes.Style.TheVariants.{File}
use Rattle.drawing.specs.declared.state.AttributeState.{AttributeState}

unfoldable pub state_of : AttributeState → State
unfolding style_of
state_of t = state t.attrs t.drawing t.changed (style_of t.style) t.fill t.position.0

-- new attributes
abbrev pub with_attributes : AttributeState → Attributes → AttributeState
with_attributes t a = record { attrs = a; drawing = t.drawing; changed = true; style = t.style; fill = t.fill; torn = t.torn; position = t.position }

-- n columns further
abbrev pub moved : AttributeState → ℕ → Bool → AttributeState
moved t n b = record { attrs = t.attrs; drawing = t.drawing; changed = t.changed; style = t.style; fill = t.fill; torn = t.torn || b; position = record { 0 = t.position.0 + n } }

-- a switch to a style
abbrev pub styling : AttributeState → code.Style → Sent
styling t s = style (state_of t) (style_of s)

-- a step: what it wrote after the count `at`, the state after it, and whether a text is torn, before or in it
pub record Wrote (l : List ℕ) (at : ℕ) (t : AttributeState) (x : Sent) (l' : List ℕ) (r : ℕ) (t' : AttributeState) : Type 0 where
  pub bytes : sink l' r ≡ emit (sink l at) (encode x.changes)
  pub state : state_of t' ≡ x.after
  pub torn : t'.torn ≡ (t.torn || not (change.whole x.changes))

-- AttributeState::new
abbrev pub new_state : AttributeState
new_state = record { attrs = plain; drawing = false; changed = false; style = File; fill = Default; torn = false; position = record { 0 = 0 } }
