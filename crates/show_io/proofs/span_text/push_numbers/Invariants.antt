use Rattle.show_io.proofs.SpanText.{NumbersLeft}
use Rattle.buffer.specs.Sink.{sink}
use mathlib.Core.Path.{◌≡◌}
use lib.ListN.{length}
use Rattle.show_io.proofs.span_text.push_numbers.Given as goal

abbrev pub invariant-loop-i : goal.invariant-loop-i
invariant-loop-i l = (length l.out ≡ length l.initial.out) × NumbersLeft l.number l.conv (sink l.initial.out l.at) l.numbers (sink l.out l.a) l.i
