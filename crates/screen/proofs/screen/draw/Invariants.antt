use Rattle.screen.proofs.Drawing.{Drawing}
use Rattle.text.specs.Class.Code.{profile_of}
use lib.ListN.{length}
use Prim.Native.Nat.{◌-◌}
use Rattle.screen.proofs.screen.draw.Given as goal

abbrev pub invariant-loop-at : goal.invariant-loop-at
invariant-loop-at l = Drawing (profile_of l.profile) l.list l.initial.row l.width l.row l.t l.at

abbrev pub decreases-loop-at : goal.decreases-loop-at
decreases-loop-at l = length l.list - l.at
