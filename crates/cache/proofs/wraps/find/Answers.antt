use Rattle.cache.proofs.Heads.{find_here, find_turn, find_end}
use Rattle.cache.proofs.wraps.find.Goals as goal

pub returns-then-eq : goal.returns-then-eq
returns-then-eq c = search find_here

pub loop-i-preserved : goal.loop-i-preserved
loop-i-preserved c = search find_turn

pub returns : goal.returns
returns c = search find_end
