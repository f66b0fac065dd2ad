use Rattle.std.proofs.Common.{◌≡◌, drop}
use Rattle.buffer.specs.Sink.{sink, emit}
use Rattle.spans.specs.Numbers.{numbers_of_all}
use Rattle.spans.proofs.numbers.write_numbers.Given as goal

abbrev pub invariant-loop-span : goal.invariant-loop-span
invariant-loop-span l = emit (sink l.numbers l.at) (numbers_of_all (drop l.span-index l.spans)) ≡ emit (sink l.initial.numbers 0) (numbers_of_all l.spans)
