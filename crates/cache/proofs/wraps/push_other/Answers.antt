use Rattle.cache.proofs.Uses.{other_same, other_pushed}
use Rattle.cache.proofs.wraps.push_other.Goals as goal

pub returns-then-eq : goal.returns-then-eq
returns-then-eq c = search other_same

pub returns : goal.returns
returns c = search other_pushed
