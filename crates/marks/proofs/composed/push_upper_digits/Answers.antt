use Rattle.marks.proofs.Composing.{upper_none, upper_one, upper_two}
use Rattle.marks.proofs.composed.push_upper_digits.Goals as goal

pub returns-then-code-lt65536 : goal.returns-then-code-lt65536
returns-then-code-lt65536 c = search upper_none

pub returns-then-code-lt1048576 : goal.returns-then-code-lt1048576
returns-then-code-lt1048576 c = search upper_one

pub returns : goal.returns
returns c = search upper_two
