use Rattle.show.proofs.Parts.{Showing}
use Rattle.show.proofs.file.in_turns.Given as goal

abbrev pub invariant-loop-turns : goal.invariant-loop-turns
invariant-loop-turns l = Showing l.name l.view l.part l.initial.line l.initial.out l.initial.state.reading l.line l.out l.state l.p l.turns

abbrev pub decreases-loop-turns : goal.decreases-loop-turns
decreases-loop-turns l = l.turns
