use Rattle.vectors.proofs.cached.answer.Goals as goal

pub loop-n-init : goal.loop-n-init
loop-n-init c = tt

pub loop-n-preserved : goal.loop-n-preserved
loop-n-preserved c = tt
