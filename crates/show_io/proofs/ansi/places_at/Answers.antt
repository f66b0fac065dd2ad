use Rattle.show_io.proofs.Printing.{places_are}
use Rattle.show_io.proofs.ansi.places_at.Goals as goal

pub returns : goal.returns
returns c = search places_are
