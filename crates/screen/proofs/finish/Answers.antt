use Rattle.screen.proofs.RowCall.{finish_malformed, finish_passed, finish_row}
use Rattle.screen.proofs.finish.Goals as goal

pub returns-in_default : goal.returns-in_default
returns-in_default c = rw c.in_default.is (finish_malformed _)

pub returns-then-t-ne0 : goal.returns-then-t-ne0
returns-then-t-ne0 c = rw c.in-Some.is (search finish_passed)

pub returns : goal.returns
returns c = rw c.in-Some.is (search finish_row)
