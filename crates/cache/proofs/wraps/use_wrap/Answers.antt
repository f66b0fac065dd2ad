use Rattle.cache.proofs.Uses.{use_written}
use Rattle.cache.proofs.wraps.use_wrap.Goals as goal

pub returns : goal.returns
returns c = search use_written
