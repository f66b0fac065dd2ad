use Rattle.screen.proofs.Storing.{Checking}
use lib.ListN.{length}
use Prim.Native.Nat.{◌-◌}
use Rattle.screen.proofs.stored.storable.Given as goal

abbrev pub invariant-loop-at : goal.invariant-loop-at
invariant-loop-at l = Checking l.old l.size l.list l.short l.at

abbrev pub decreases-loop-at : goal.decreases-loop-at
decreases-loop-at l = length l.list - l.at
