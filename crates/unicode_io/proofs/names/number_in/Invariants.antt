use Rattle.unicode_io.specs.Names.Laws.{Scanning}
use Rattle.unicode_io.proofs.names.number_in.Given as goal

abbrev pub invariant-loop-b : goal.invariant-loop-b
invariant-loop-b l = Scanning l.list l.word l.number l.at l.b-index
