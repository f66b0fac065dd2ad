use Rattle.rows.proofs.MarkColumns.{Counted}
use lib.ListN.{length}
use Prim.Native.Nat.{◌-◌}
use Rattle.rows.proofs.marks.drawn_columns.Given as goal

abbrev pub invariant-loop-p : goal.invariant-loop-p
invariant-loop-p l = Counted l.text l.p l.columns.0

abbrev pub decreases-loop-p : goal.decreases-loop-p
decreases-loop-p l = length l.text - l.p
