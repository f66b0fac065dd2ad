use Prim.Native.Nat.{◌≤◌}
use lib.ListN.{length}
use Rattle.text.specs.Backward.{pictograph_to}
use Rattle.text.specs.Class.Code.{profile_of}
use Rattle.text.proofs.BackwardWalk.{PictographLoop}
use Rattle.text.proofs.backward.Written.pictograph_to.Given as goal

abbrev pub invariant-loop-i : goal.invariant-loop-i
invariant-loop-i l = (l.i ≤ length l.self.text.now) × PictographLoop (profile_of l.self.profile) l.self.text.now l.i (pictograph_to (profile_of l.self.profile) l.self.text.now l.q)

abbrev pub decreases-loop-i : goal.decreases-loop-i
decreases-loop-i l = l.i
