use Prim.Native.Nat.{◌-◌}
use lib.ListN.{length}
use Rattle.spans.proofs.Searching.{LengthLoop}
use Rattle.spans.proofs.search.escapes_len.Given as goal

abbrev pub invariant-loop-e : goal.invariant-loop-e
invariant-loop-e l = LengthLoop l.s l.at l.sum

abbrev pub decreases-loop-e : goal.decreases-loop-e
decreases-loop-e l = length l.s - l.at
