-- The styles of src/attributes.rt, as the definition has them.
use Rattle.drawing.specs.Attributes.{Style, file, control, match, current_match}
use Rattle.drawing.specs.declared.attributes.Style as code
use Rattle.drawing.specs.declared.attributes.Style.TheVariants.{File, Control, Match, CurrentMatch}

unfoldable pub style_of : code.Style → Style
style_of File = file
style_of Control = control
style_of Match = match
style_of CurrentMatch = current_match
