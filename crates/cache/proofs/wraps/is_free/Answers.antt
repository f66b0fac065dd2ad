use Rattle.cache.proofs.Heads.{free_not, free_turn, free_end}
use Rattle.cache.proofs.wraps.is_free.Goals as goal

pub returns-then-head_at-block : goal.returns-then-head_at-block
returns-then-head_at-block c = search free_not

pub loop-i-preserved : goal.loop-i-preserved
loop-i-preserved c = search free_turn

pub returns : goal.returns
returns c = search free_end
