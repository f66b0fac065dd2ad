use Rattle.buffer.specs.Conditions.{branch, met}
use Rattle.rows_io.specs.FirstLine.{with_byte}
use Rattle.rows_io.proofs.first_line.with_byte.Goals as goal

pub returns-then-b-eq10 : goal.returns-then-b-eq10
unfolding with_byte
returns-then-b-eq10 c = search branch depth 10 fits 20000

pub with_digit-requires : goal.with_digit-requires
with_digit-requires c = search met

pub returns-then-is_digit : goal.returns-then-is_digit
unfolding with_byte
returns-then-is_digit c = search branch depth 10 fits 20000

pub returns-then-b-f : goal.returns-then-b-f
unfolding with_byte
returns-then-b-f c = search branch depth 10 fits 20000

pub returns : goal.returns
unfolding with_byte
returns c = search branch depth 10 fits 20000
