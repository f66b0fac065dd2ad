use Rattle.cache.proofs.Heads.{count_begin, count_stop, count_turn, count_end}
use Rattle.cache.proofs.wraps.heads_in.Goals as goal

pub loop-n-init : goal.loop-n-init
loop-n-init c = search count_begin

pub returns-then-head_at-eq0 : goal.returns-then-head_at-eq0
returns-then-head_at-eq0 c = search count_stop

pub loop-n-preserved : goal.loop-n-preserved
loop-n-preserved c = search count_turn

pub returns : goal.returns
returns c = search count_end
