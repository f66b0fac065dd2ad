use Rattle.rows.proofs.WrappedTexts.{long_breaks, long_fits}
use Rattle.rows.proofs.wrap.WrapState.long_word.Goals as goal

pub returns-then-fits : goal.returns-then-fits
returns-then-fits c = search long_fits

pub returns : goal.returns
returns c = search long_breaks
