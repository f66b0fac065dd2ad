use Rattle.std.proofs.Common.{◌≡◌, length, drop}
use Rattle.buffer.specs.Sink.{sink, emit}
use Rattle.cache.specs.Wraps.{kept, without, head_numbers}
use Rattle.cache.proofs.wraps.push_others.Given as goal

abbrev pub invariant-loop-i : goal.invariant-loop-i
invariant-loop-i l = (emit (sink l.heads l.at) (head_numbers (without l.key (drop l.i (kept l.wraps)))) ≡ emit (sink l.initial.heads l.start) (head_numbers (without l.key (kept l.wraps)))) × (length l.heads ≡ length l.initial.heads)
