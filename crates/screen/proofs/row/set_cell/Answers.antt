use native.Mathlib.Omega.{arith}
use lib.Seq.{lt-length-set}
use Rattle.screen.proofs.row.set_cell.Goals as goal

pub bounds-row-i-2 : goal.bounds-row-i-2
bounds-row-i-2 c = lt-length-set c.args.row.now _ _ (omega (arith, c.requires))
