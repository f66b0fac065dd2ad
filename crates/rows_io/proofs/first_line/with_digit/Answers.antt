use Rattle.rows_io.proofs.Reading.{digit_in_width, digit_in_mode, digit_elsewhere}
use Rattle.rows_io.proofs.first_line.with_digit.Goals as goal

pub returns-then-f-eq0 : goal.returns-then-f-eq0
returns-then-f-eq0 c = search digit_in_width

pub returns-then-f-eq1 : goal.returns-then-f-eq1
returns-then-f-eq1 c = search digit_in_mode

pub returns : goal.returns
returns c = search digit_elsewhere
