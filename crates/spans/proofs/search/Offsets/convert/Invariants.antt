use Prim.Native.Nat.{◌-◌}
use lib.ListN.{length}
use Rattle.spans.proofs.Searching.{OffsetLoop}
use Rattle.spans.proofs.search.Offsets.convert.Given as goal

abbrev pub invariant-loop-o : goal.invariant-loop-o
invariant-loop-o l = OffsetLoop l.s l.x l.initial.o l.o

abbrev pub decreases-loop-o : goal.decreases-loop-o
decreases-loop-o l = length l.s - l.o.origin
