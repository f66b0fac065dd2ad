use Rattle.show_io.proofs.SpanText.{VisibleLeft}
use Rattle.buffer.specs.Sink.{sink}
use mathlib.Core.Path.{◌≡◌}
use lib.ListN.{length}
use Rattle.show_io.proofs.span_text.push_visible.Given as goal

abbrev pub invariant-loop-b : goal.invariant-loop-b
invariant-loop-b l = (length l.out ≡ length l.initial.out) × VisibleLeft (sink l.initial.out l.at) l.s (sink l.out l.a) l.b-index
