use Prim.Native.Nat.{◌-◌}
use lib.ListN.{length}
use Rattle.text.specs.Class.Code.{profile_of}
use Rattle.drawing.proofs.Clipping.{Starting}
use Rattle.drawing.proofs.clip.clip_start.Given as goal

abbrev pub invariant-loop-p : goal.invariant-loop-p
invariant-loop-p l = Starting (profile_of l.profile) l.text l.offset.0 l.limit.0 l.p l.column

abbrev pub decreases-loop-p : goal.decreases-loop-p
decreases-loop-p l = length l.text - l.p.0
