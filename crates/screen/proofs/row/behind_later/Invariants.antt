use Rattle.screen.proofs.Cells.{BehindLater}
use Rattle.screen.proofs.row.behind_later.Given as goal

abbrev pub invariant-loop-i : goal.invariant-loop-i
invariant-loop-i l = BehindLater l.list l.row l.from l.end l.i
