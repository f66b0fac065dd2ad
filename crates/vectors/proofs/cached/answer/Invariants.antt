use Prim.Native.Nat.{◌-◌}
use Rattle.vectors.proofs.cached.answer.Given as goal

abbrev pub invariant-loop-n : goal.invariant-loop-n
invariant-loop-n l = Unit {0}

abbrev pub decreases-loop-n : goal.decreases-loop-n
decreases-loop-n l = 128 - l.n
