use Rattle.show.proofs.Parts.{Asking}
use Rattle.show.proofs.file.show_all.Given as goal

abbrev pub invariant-loop-turns : goal.invariant-loop-turns
invariant-loop-turns g l = Asking l.name l.view l.initial.line l.initial.out l.line l.out l.state l.turns

abbrev pub decreases-loop-turns : goal.decreases-loop-turns
decreases-loop-turns g l = l.turns
