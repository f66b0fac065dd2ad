use Rattle.show_io.proofs.Pieces.{fits_not, fits}
use Rattle.show_io.proofs.input.fitted.Goals as goal

pub returns-then-out-at : goal.returns-then-out-at
returns-then-out-at c = search fits_not

pub returns : goal.returns
returns c = search fits
