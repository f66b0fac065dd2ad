use Rattle.drawing.proofs.Columns.{printable_text, measured_printable}
use Rattle.drawing.proofs.clip.measure.Goals as goal

pub columns_of-columns-requires : goal.columns_of-columns-requires
columns_of-columns-requires c = search printable_text

pub returns-then-is_printable_text : goal.returns-then-is_printable_text
returns-then-is_printable_text c = search measured_printable
