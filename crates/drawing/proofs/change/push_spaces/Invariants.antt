use Rattle.std.proofs.Common.{◌≡◌, ◌-◌, length, replicate}
use Rattle.buffer.specs.Sink.{sink, emit}
use Rattle.drawing.proofs.change.push_spaces.Given as goal

abbrev pub invariant-loop-column : goal.invariant-loop-column
invariant-loop-column l = (emit (sink l.list l.at) (replicate (l._column-end - l._column) 0x20) ≡ emit (sink l.initial.list l.start) (replicate l._column-end 0x20)) × (length l.list ≡ length l.initial.list)
