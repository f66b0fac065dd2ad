use Rattle.cache.proofs.Heads.{well_not, well_turn, well_end}
use Rattle.cache.proofs.wraps.well_kept.Goals as goal

pub returns-then-not-head-n : goal.returns-then-not-head-n
returns-then-not-head-n c = search well_not

pub loop-i-preserved : goal.loop-i-preserved
loop-i-preserved c = search well_turn

pub returns : goal.returns
returns c = search well_end
