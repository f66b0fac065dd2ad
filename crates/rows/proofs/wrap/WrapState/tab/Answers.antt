use Rattle.rows.proofs.PushedRows.{tab_stays, tab_wraps}
use Rattle.rows.proofs.wrap.WrapState.tab.Goals as goal

pub returns-then-fits : goal.returns-then-fits
returns-then-fits c = search tab_stays

pub returns : goal.returns
returns c = search tab_wraps
