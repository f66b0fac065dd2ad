-- What the contracts of src/hyperlink.rt say.
use Rattle.drawing.specs.Attributes.{linked}
use Rattle.drawing.specs.State.{with_attributes}
use Rattle.drawing.specs.declared.attributes.Link.{Link}
use Rattle.drawing.specs.declared.state.AttributeState.{AttributeState}

-- the state after a hyperlink
abbrev pub linked_to : AttributeState → Link → AttributeState
linked_to t l = with_attributes t (linked t.attrs l.place.0 l.len)
