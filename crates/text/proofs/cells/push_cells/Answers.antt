use Rattle.std.proofs.Common.{rules}
use Rattle.text.proofs.CellLoops.{pushed_end, pushed_turn}
use Rattle.text.proofs.cells.push_cells.Goals as goal

pub loop-left-preserved : goal.loop-left-preserved
loop-left-preserved c = (pushed_turn _ _ c.loop-left.invariant.0 _ c.in-len2-up.len_at_least c.push_overstruck-at.ensures, search rules)

pub returns : goal.returns
returns c = pushed_end _ _ c.loop-left.invariant.0 c.in_default.len_below
