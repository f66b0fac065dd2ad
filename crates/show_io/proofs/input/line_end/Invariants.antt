use Rattle.show_io.proofs.Pieces.{Finding}
use Prim.Native.Nat.{◌-◌}
use lib.ListN.{length}
use Rattle.show_io.proofs.input.line_end.Given as goal

abbrev pub invariant-loop-i : goal.invariant-loop-i
invariant-loop-i l = Finding l.part l.at l.i

abbrev pub decreases-loop-i : goal.decreases-loop-i
decreases-loop-i l = length l.part - l.i
