use Rattle.screen.proofs.Storing.{Rewriting}
use lib.ListN.{length}
use Prim.Native.Nat.{◌-◌}
use Rattle.screen.proofs.stored.write_records.Given as goal

abbrev pub invariant-loop-at : goal.invariant-loop-at
invariant-loop-at l = Rewriting l.from l.to l.list l.initial.out l.out l.count l.at

abbrev pub decreases-loop-at : goal.decreases-loop-at
decreases-loop-at l = length l.list - l.at
