use Rattle.drawing.proofs.Marks.{mark_digit}
use Rattle.buffer.specs.Conditions.{branch}
use Rattle.drawing.proofs.mark.mark_byte.Goals as goal

pub returns-then-i-eq0 : goal.returns-then-i-eq0
returns-then-i-eq0 c = search branch depth 10 fits 20000

pub returns-then-columns-i : goal.returns-then-columns-i
returns-then-columns-i c = search branch depth 10 fits 20000

pub returns-then-columns-i-2 : goal.returns-then-columns-i-2
returns-then-columns-i-2 c = search branch depth 10 fits 20000

pub returns-then-columns-i-3 : goal.returns-then-columns-i-3
returns-then-columns-i-3 c = search branch depth 10 fits 20000

pub returns : goal.returns
returns c = search mark_digit
