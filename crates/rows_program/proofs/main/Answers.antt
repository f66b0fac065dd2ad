use Rattle.rows_program.proofs.Parts.{printed_fits}
use mathlib.Core.Path.{sym}
use Prim.Native.Nat.{ℕ}
use lib.ListN.{length-replicate}
use lib.Seq.{length-take-le}
use Rattle.rows_program.proofs.main.Goals as goal

pub slice_bounds-out-end : goal.slice_bounds-out-end
slice_bounds-out-end c = printed_fits _ _ _ _ _ (length-replicate {A = ℕ} 258048 0) c.print-n.auto.out c.print-n.ensures

pub slice_bounds-write_all-end : goal.slice_bounds-write_all-end
slice_bounds-write_all-end c = sym (length-take-le _ _ (printed_fits _ _ _ _ _ (length-replicate {A = ℕ} 258048 0) c.print-n.auto.out c.print-n.ensures))
