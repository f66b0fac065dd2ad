use Rattle.text.specs.Printable.Laws.{columns_of_law}
use Rattle.text.proofs.printable.columns_of.Goals as goal

pub returns : goal.returns
returns c = search columns_of_law
