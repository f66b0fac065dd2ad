use Rattle.std.proofs.Common.{◌-◌, length}
use Rattle.unicode_io.specs.Rows.Laws.{Counting}
use Rattle.unicode_io.proofs.rows.count_rows.Given as goal

abbrev pub invariant-loop-row : goal.invariant-loop-row
invariant-loop-row l = Counting l.kinds l.n l.at

abbrev pub decreases-loop-row : goal.decreases-loop-row
decreases-loop-row l = length l.kinds - l.at
