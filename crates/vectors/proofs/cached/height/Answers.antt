use Rattle.std.proofs.Common.{rules}
use Rattle.vectors.specs.Cached.{after_height}
use Rattle.vectors.proofs.cached.height.Goals as goal

pub returns : goal.returns
unfolding after_height
returns c = search rules
