use Rattle.std.proofs.Common.{◌∙◌, refl}
use Rattle.drawing.specs.Marks.{replacements}
use Rattle.drawing.proofs.LineDrawing.{bytes_at}
use Rattle.drawing.proofs.line_drawing.push_replacement.Goals as goal

pub returns : goal.returns
unfolding replacements
returns c = c.push_elements.ensures ∙ rw (c.as_bytes.ensures.value, bytes_at) refl
