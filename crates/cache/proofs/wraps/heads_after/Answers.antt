use Rattle.cache.proofs.Uses.{heads_are}
use Rattle.cache.proofs.wraps.heads_after.Goals as goal

pub returns : goal.returns
returns c = search heads_are
