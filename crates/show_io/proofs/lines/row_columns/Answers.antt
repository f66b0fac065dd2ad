use Prim.Native.Nat.{ℕ}
use lib.ListN.{length-replicate}
use Rattle.show_io.proofs.LineRows.{columns_window, columns_row}
use Rattle.show_io.proofs.lines.row_columns.Goals as goal

pub returns-then-view-eq0 : goal.returns-then-view-eq0
returns-then-view-eq0 c = search columns_window

pub returns : goal.returns
returns c = columns_row _ _ _ _ _ _ _ _ _ _ _ _ c.before.before.before.before.before.before.before.before.before.if-view-eq0.false (length-replicate {A = ℕ} 32768 0) (length-replicate {A = ℕ} 8192 0) (length-replicate {A = ℕ} 16384 0) c.before.before.before.before.before.rows_numbers.ensures c.columns_in.ensures
