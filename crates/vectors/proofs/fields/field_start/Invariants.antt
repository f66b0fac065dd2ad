use Prim.Native.Nat.{◌-◌}
use lib.ListN.{length}
use Rattle.vectors.proofs.FieldText.{Passing}
use Rattle.vectors.proofs.fields.field_start.Given as goal

abbrev pub invariant-loop-i : goal.invariant-loop-i
invariant-loop-i l = Passing l.s l.n l.i l.left

abbrev pub decreases-loop-i : goal.decreases-loop-i
decreases-loop-i l = length l.s - l.i
