use Prim.Native.Nat.{ℕ}
use lib.ListN.{length-replicate}
use Rattle.show_io.proofs.LineRows.{small_printed}
use Rattle.show_io.proofs.lines.print_small.Goals as goal

pub returns : goal.returns
returns c = small_printed _ _ _ _ _ _ _ _ _ _ _ _ _ (length-replicate {A = ℕ} 2048 0) (length-replicate {A = ℕ} 2048 0) c.before.before.before.before.before.before.before.before.before.before.before.draw_small-d.ensures c.before.before.before.before.print_drawn.ensures
