use Prim.Native.Nat.{◌-◌}
use Rattle.unicode_data.proofs.FindRow.{Search}
use Rattle.unicode_data.proofs.rows.find_row.Given as goal

abbrev pub invariant-loop-low : goal.invariant-loop-low
invariant-loop-low l = Search l.rows l.x l.low l.high

abbrev pub decreases-loop-low : goal.decreases-loop-low
decreases-loop-low l = l.high - l.low
