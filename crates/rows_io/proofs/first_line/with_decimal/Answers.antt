use Rattle.buffer.specs.Conditions.{branch}
use Rattle.rows_io.proofs.Reading.{digit_low}
use Rattle.rows_io.proofs.first_line.with_decimal.Goals as goal

pub overflow_sub-result : goal.overflow_sub-result
overflow_sub-result c = search digit_low

pub returns-then-v-le65535 : goal.returns-then-v-le65535
returns-then-v-le65535 c = search branch depth 10 fits 20000

pub returns : goal.returns
returns c = search branch depth 10 fits 20000
