use Rattle.text.specs.Printable.Laws.{bytes_of}
use Rattle.text.proofs.printable.bytes_of.Goals as goal

pub returns : goal.returns
returns c = bytes_of _
