use Rattle.rows_io.proofs.Lines.{RowsLeft}
use Rattle.buffer.specs.Sink.{sink}
use mathlib.Core.Path.{◌≡◌}
use lib.ListN.{length}
use Rattle.rows_io.proofs.output.push_rows.Given as goal

abbrev pub invariant-loop-i : goal.invariant-loop-i
invariant-loop-i l = (length l.out ≡ length l.initial.out) × RowsLeft (sink l.initial.out l.at) l.pairs (sink l.out l.a) l.i
