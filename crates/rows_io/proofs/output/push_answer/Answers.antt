use mathlib.Core.Path.{sym}
use lib.Seq.{length-take-le}
use Rattle.buffer.specs.Numbers.Laws.{smaller_right}
use Rattle.rows_io.proofs.Lines.{accepted, refused}
use Rattle.rows_io.proofs.output.push_answer.Goals as goal

pub slice_bounds-push_rows-end : goal.slice_bounds-push_rows-end
slice_bounds-push_rows-end c = sym (length-take-le _ _ (search smaller_right))

pub returns-then-answer-eq0 : goal.returns-then-answer-eq0
returns-then-answer-eq0 c = search accepted

pub returns : goal.returns
returns c = search refused
