use Rattle.std.proofs.Common.{◌≡◌, length}
use Rattle.unicode_table.specs.Files.Laws.{Asking}
use Rattle.unicode_table.proofs.files.read_open.Given as goal

abbrev pub invariant-loop : goal.invariant-loop
invariant-loop l = (length l.cells ≡ length l.initial.cells) × Asking l.file l.initial.reading l.initial.cells l.cells l.reading l.counter
