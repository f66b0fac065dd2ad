use Rattle.show_io.proofs.Bodies.{Comparing}
use Rattle.show_io.proofs.ansi.are_alike.Given as goal

abbrev pub invariant-loop-i : goal.invariant-loop-i
invariant-loop-i l = Comparing l.n l.from l.a l.b l.i
