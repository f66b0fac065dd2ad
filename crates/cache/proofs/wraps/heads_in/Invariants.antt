use Rattle.cache.proofs.Heads.{Counted}
use Rattle.cache.proofs.wraps.heads_in.Given as goal

abbrev pub invariant-loop-n : goal.invariant-loop-n
invariant-loop-n l = Counted l.wraps l.n
