use Rattle.rows_io.proofs.Reading.{Reading}
use Rattle.rows_io.proofs.first_line.read_part.Given as goal

abbrev pub invariant-loop-i : goal.invariant-loop-i
invariant-loop-i l = Reading l.initial.f l.s l.f l.i
