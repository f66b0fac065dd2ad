use mathlib.Core.Path.{◌≡◌}
use lib.ListN.{length}
use Rattle.buffer.specs.Sink.{sink, emit}
use Rattle.text.specs.Cells.{overstruck_cells}
use Rattle.text.proofs.cells.push_cells.Given as goal

abbrev pub invariant-loop-left : goal.invariant-loop-left
invariant-loop-left l = (emit (sink l.out l.at) (overstruck_cells l.left) ≡ emit (sink l.initial.out 0) (overstruck_cells l.cells)) × (length l.out ≡ length l.initial.out)

abbrev pub decreases-loop-left : goal.decreases-loop-left
decreases-loop-left l = length l.left
