use Prim.Native.Nat.{◌-◌}
use lib.ListN.{length}
use Rattle.text.specs.Class.Code.{profile_of}
use Rattle.text.specs.Rules.{before_number}
use Rattle.text.proofs.ForwardWalk.{Walking}
use Rattle.text.proofs.segmentation.walk_cluster.Given as goal

abbrev pub invariant-loop-p : goal.invariant-loop-p
invariant-loop-p l = Walking (profile_of l.profile) l.s l.at l.p l.w (before_number l.before)

abbrev pub decreases-loop-p : goal.decreases-loop-p
decreases-loop-p l = length l.s - l.p
