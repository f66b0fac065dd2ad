use Rattle.std.proofs.Common.{refl, rules}
use Rattle.cache.proofs.Uses.{others_turn, others_end}
use Rattle.cache.proofs.wraps.push_others.Goals as goal

pub loop-i-init : goal.loop-i-init
loop-i-init c = (refl, refl)

pub loop-i-preserved : goal.loop-i-preserved
loop-i-preserved c = (search others_turn, search rules)

pub returns : goal.returns
returns c = search others_end
