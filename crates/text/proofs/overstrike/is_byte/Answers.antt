use Rattle.text.proofs.OverstrikeSteps.{one_byte_law, same_long}
use Rattle.text.proofs.overstrike.is_byte.Goals as goal

pub returns-then-x-eq1 : goal.returns-then-x-eq1
returns-then-x-eq1 c = one_byte_law _ _ c.before.if-x-eq1.true

pub returns : goal.returns
returns c = same_long _ _ c.if-x-eq1.false
