use Rattle.rows.proofs.WrappedTexts.{unprintable_eight, unprintable_drawn}
use Rattle.rows.proofs.wrap.WrapState.unprintable.Goals as goal

pub returns-then-counts_drawn : goal.returns-then-counts_drawn
returns-then-counts_drawn c = search unprintable_drawn

pub returns : goal.returns
returns c = search unprintable_eight
