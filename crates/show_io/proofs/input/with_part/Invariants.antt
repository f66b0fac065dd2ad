use Rattle.show_io.proofs.Pieces.{Parting}
use Prim.Native.Nat.{◌-◌}
use lib.ListN.{length}
use Rattle.show_io.proofs.input.with_part.Given as goal

abbrev pub invariant-loop-p : goal.invariant-loop-p
invariant-loop-p l = Parting l.name l.view l.part l.from l.initial.line l.initial.out l.initial.reading l.line l.out l.reading l.p

abbrev pub decreases-loop-p : goal.decreases-loop-p
decreases-loop-p l = length l.part - l.p
