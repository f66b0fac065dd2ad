use Prim.Native.Nat.{◌-◌, ◌≤◌}
use mathlib.Core.Path.{◌≡◌}
use lib.ListN.{drop, length}
use Rattle.text.specs.Utf8.{same_bytes}
use Rattle.text.proofs.overstrike.same_bytes.Given as goal

abbrev pub invariant-loop-i : goal.invariant-loop-i
invariant-loop-i l = (l.i ≤ length l.x) × (length l.x ≡ length l.y) × (same_bytes l.x l.y ≡ same_bytes (drop l.i l.x) (drop l.i l.y))

abbrev pub decreases-loop-i : goal.decreases-loop-i
decreases-loop-i l = length l.x - l.i
