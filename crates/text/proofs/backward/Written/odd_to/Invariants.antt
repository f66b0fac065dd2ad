use Prim.Native.Nat.{◌≤◌}
use lib.ListN.{length}
use Rattle.text.specs.Backward.{odd_to}
use Rattle.text.specs.Class.Code.{profile_of}
use Rattle.text.proofs.BackwardWalk.{OddLoop}
use Rattle.text.proofs.backward.Written.odd_to.Given as goal

abbrev pub invariant-loop-i : goal.invariant-loop-i
invariant-loop-i l = (l.i ≤ length l.self.text.now) × OddLoop (profile_of l.self.profile) l.self.text.now l.i l.odd (odd_to (profile_of l.self.profile) l.self.text.now l.q)

abbrev pub decreases-loop-i : goal.decreases-loop-i
decreases-loop-i l = l.i
