use mathlib.Core.Path.{◌≡◌}
use Prim.Native.Nat.{◌+◌, ◌-◌, ◌≤◌}
use lib.ListN.{length}
use Rattle.vectors.proofs.program.print_rows.Given as goal

abbrev pub invariant-loop-at : goal.invariant-loop-at
invariant-loop-at l = (length l.line ≡ 4097) × (length l.part ≡ 4096) × (l.total ≤ 10000128)

abbrev pub decreases-loop-at : goal.decreases-loop-at
decreases-loop-at l = l.total + 1 - l.at
