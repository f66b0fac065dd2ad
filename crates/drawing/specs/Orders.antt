-- What the contracts of src/orders.rt say.
use Rattle.std.specs.Prelude.{List}
use Rattle.spans.specs.declared.sgr.Sgr.{Sgr}
use Rattle.drawing.specs.Attributes.{apply_all}
use Rattle.drawing.specs.State.{with_attributes}
use Rattle.drawing.specs.declared.state.AttributeState.{AttributeState}

-- the state after style orders
abbrev pub obeyed : AttributeState → List Sgr → AttributeState
obeyed t os = with_attributes t (apply_all t.attrs os)
