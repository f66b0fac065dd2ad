use Rattle.show_io.proofs.Bodies.{Matching}
use Rattle.show_io.proofs.ansi.are_same.Given as goal

abbrev pub invariant-loop-i : goal.invariant-loop-i
invariant-loop-i l = Matching l.a l.b l.same l.i
