use Rattle.std.proofs.Common.{◌≡◌, length}
use Rattle.unicode_table.specs.Files.{Files}
use Rattle.unicode_table.proofs.files.read_all.Given as goal

abbrev pub invariant-loop-file : goal.invariant-loop-file
invariant-loop-file l = (length l.cells ≡ length l.initial.cells) × Files l.file l.initial.cells l.cells l.reading
