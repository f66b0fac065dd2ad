use Rattle.drawing.proofs.Marks.{MarkBytes}
use Rattle.drawing.proofs.mark.push_mark_bytes.Given as goal

abbrev pub invariant-loop-i : goal.invariant-loop-i
invariant-loop-i l = MarkBytes l.code l.columns.0 l.fn.from.0 l.i-end l.initial.list l.start l.list l.at l.i
