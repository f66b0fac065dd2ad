use mathlib.Core.Path.{◌≡◌}
use Rattle.drawing.proofs.LineDrawing.{Converting}
use lib.ListN.{length}
use Prim.Native.Nat.{◌-◌}
use Rattle.drawing.proofs.line_drawing.convert_line_drawing.Given as goal

abbrev pub invariant-loop-p : goal.invariant-loop-p
invariant-loop-p l = (Converting l.text l.initial.out l.p l.a l.out) × (length l.out ≡ length l.initial.out)

abbrev pub decreases-loop-p : goal.decreases-loop-p
decreases-loop-p l = length l.text - l.p
