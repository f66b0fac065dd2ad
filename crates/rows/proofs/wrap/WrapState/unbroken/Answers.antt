use Rattle.rows.proofs.PushedRows.{unbroken_stays, unbroken_wraps}
use Rattle.rows.proofs.wrap.WrapState.unbroken.Goals as goal

pub returns-then-fits : goal.returns-then-fits
returns-then-fits c = search unbroken_stays

pub returns : goal.returns
returns c = search unbroken_wraps
