use mathlib.Core.List.{reverse}
use Rattle.text.specs.Backward.{without_last}
use Rattle.text.specs.Class.Code.{profile_of}
use Rattle.text.specs.Utf8.Code.{run_of, size}
use Rattle.text.specs.Utf8.{decode}
use Rattle.text.proofs.BackwardWalk.{At}
use Rattle.text.proofs.backward.Written.last_start.Given as goal

abbrev pub invariant-loop-q : goal.invariant-loop-q
invariant-loop-q l = At (profile_of l.self.profile) l.self.text.now l.q (size (without_last (profile_of l.self.profile) (reverse (run_of (decode l.self.text.now)))))

abbrev pub decreases-loop-q : goal.decreases-loop-q
decreases-loop-q l = l.q
