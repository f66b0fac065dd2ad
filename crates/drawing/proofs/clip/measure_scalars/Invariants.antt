use Rattle.std.proofs.Common.{◌-◌, length}
use Rattle.text.specs.Class.Code.{profile_of}
use Rattle.drawing.proofs.Clipping.{Measuring}
use Rattle.drawing.proofs.clip.measure_scalars.Given as goal

abbrev pub invariant-loop-end : goal.invariant-loop-end
invariant-loop-end l = Measuring (profile_of l.profile) l.text l.end l.width

abbrev pub decreases-loop-end : goal.decreases-loop-end
decreases-loop-end l = length l.text - l.end.0
