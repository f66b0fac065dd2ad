use Rattle.std.proofs.Common.{rules}
use Rattle.vectors.specs.Cached.{after_rows}
use Rattle.vectors.proofs.cached.rows.Goals as goal

pub returns : goal.returns
unfolding after_rows
returns c = search rules
