use mathlib.Core.Path.{◌≡◌}
use lib.ListN.{length, drop}
use Rattle.buffer.specs.Sink.{sink, emit}
use Rattle.vectors.specs.Fields.{listed_from, listed}
use Rattle.vectors.proofs.fields.numbers.Given as goal

abbrev pub invariant-loop-b : goal.invariant-loop-b
invariant-loop-b l = (emit (sink l.out l.at) (listed_from l.n (drop l.b-index l.text)) ≡ emit (sink l.initial.out 0) (listed l.text)) × (length l.out ≡ length l.initial.out)
