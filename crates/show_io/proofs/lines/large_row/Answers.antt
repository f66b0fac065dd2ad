use Prim.Native.Nat.{ℕ}
use lib.ListN.{length-replicate}
use Rattle.show_io.proofs.LineRows.{large_printed}
use Rattle.show_io.proofs.lines.large_row.Goals as goal

pub returns : goal.returns
returns c = large_printed _ _ _ _ _ _ _ _ _ _ _ _ _ _ _ _ _ c.before.before.before.before.before.before.before.before.before.before.before.before.before.before.before.row_columns-columns.ensures (length-replicate {A = ℕ} 32768 0) (length-replicate {A = ℕ} 8192 0) (length-replicate {A = ℕ} 131072 0) (length-replicate {A = ℕ} 262144 0) c.before.before.before.before.before.before.before.before.before.before.before.draw_large-d.ensures c.before.before.before.print_drawn.ensures
