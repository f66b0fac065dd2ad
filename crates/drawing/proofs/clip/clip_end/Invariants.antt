use Prim.Native.Nat.{◌-◌}
use lib.ListN.{length}
use Rattle.text.specs.Class.Code.{profile_of}
use Rattle.drawing.proofs.Clipping.{Ending}
use Rattle.drawing.proofs.clip.clip_end.Given as goal

abbrev pub invariant-loop-p : goal.invariant-loop-p
invariant-loop-p l = Ending (profile_of l.profile) l.text l.initial.p.0 l.initial.column.0 l.limit.0 l.p l.column

abbrev pub decreases-loop-p : goal.decreases-loop-p
decreases-loop-p l = length l.text - l.p.0
