use mathlib.Core.Path.{◌≡◌}
use Prim.Native.Nat.{◌-◌}
use lib.ListN.{length}
use Rattle.buffer.specs.Sink.{sink, emit}
use Rattle.vectors.specs.Program.{input_at, part_of}
use Rattle.vectors.proofs.program.fill.Given as goal

abbrev pub invariant-loop-i : goal.invariant-loop-i
invariant-loop-i l = (emit (sink l.part l.n) (part_of (input_at l.prefix l.byte l.times l.suffix) l.i (l.end - l.i)) ≡ emit (sink l.initial.part 0) (part_of (input_at l.prefix l.byte l.times l.suffix) l.at (l.end - l.at))) × (length l.part ≡ length l.initial.part)
