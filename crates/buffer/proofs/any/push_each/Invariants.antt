use Rattle.std.proofs.Common.{◌≡◌, length, drop}
use Rattle.buffer.specs.Sink.{sink, emit}
use Rattle.buffer.proofs.any.push_each.Given as goal

abbrev pub invariant-loop-x : goal.invariant-loop-x
invariant-loop-x g l = (emit (sink l.out l.end) (drop l.x-index l.src) ≡ emit (sink l.initial.out l.at) l.src) × (length l.out ≡ length l.initial.out)
