use Prim.Native.Nat.{ℕ}
use lib.ListN.{length-replicate}
use Rattle.show_io.proofs.LineRows.{narrow_printed, wide_printed}
use Rattle.show_io.proofs.lines.small_row.Goals as goal

pub returns-then-view-le128 : goal.returns-then-view-le128
returns-then-view-le128 c = narrow_printed _ _ _ _ _ _ _ _ c.before.before.before.before.before.before.if-view-le128.true (length-replicate {A = ℕ} 4096 0) c.before.before.before.print_small.ensures

pub returns : goal.returns
returns c = wide_printed _ _ _ _ _ _ _ _ c.before.before.before.before.before.before.if-view-le128.false (length-replicate {A = ℕ} 16384 0) c.before.before.before.print_small-2.ensures
