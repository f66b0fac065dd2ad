use Rattle.rows.proofs.WrappedTexts.{one_fits, one_wraps}
use Rattle.rows.proofs.wrap.WrapState.one_word.Goals as goal

pub returns-then-fits : goal.returns-then-fits
returns-then-fits c = search one_fits

pub returns : goal.returns
returns c = search one_wraps
