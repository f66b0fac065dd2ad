use Rattle.drawing.proofs.Marks.{MarksOn}
use Rattle.std.proofs.Common.{◌≡◌, ◌-◌, length}
use Rattle.drawing.proofs.state.AttributeState.write_marks.Given as goal

abbrev pub invariant-loop-p : goal.invariant-loop-p
invariant-loop-p l = (MarksOn l.window l.text l.initial.list l.initial.at l.initial.self l.p l.list l.at l.self) × (length l.list ≡ length l.initial.list)

abbrev pub decreases-loop-p : goal.decreases-loop-p
decreases-loop-p l = length l.text - l.p
