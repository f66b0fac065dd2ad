use Rattle.rows.proofs.PushedRows.{held_none, row_pushed}
use Rattle.rows.proofs.wrap.WrapState.push_held.Goals as goal

pub returns-then-self : goal.returns-then-self
returns-then-self c = search held_none

pub returns : goal.returns
returns c = search row_pushed
