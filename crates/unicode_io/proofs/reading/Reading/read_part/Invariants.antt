use Rattle.std.proofs.Common.{◌≡◌, length}
use Rattle.unicode_io.specs.Reading.{state_of}
use Rattle.unicode_io.specs.Reading.Laws.{Left}
use Rattle.unicode_io.proofs.reading.Reading.read_part.Given as goal

abbrev pub invariant-loop-b : goal.invariant-loop-b
invariant-loop-b l = (length l.cells ≡ length l.initial.cells) × Left l.file (state_of l.initial.reading l.initial.cells) l.part (state_of l.reading l.cells) l.b-index
