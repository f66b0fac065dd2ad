use Rattle.text.specs.Printable.Laws.{place_of}
use Rattle.text.proofs.printable.place_of.Goals as goal

pub returns : goal.returns
returns c = search place_of
