use Rattle.screen.proofs.Texts.{Texting}
use Rattle.text.specs.Class.Code.{profile_of}
use lib.ListN.{length}
use Prim.Native.Nat.{◌-◌}
use Rattle.screen.proofs.screen.on_text.Given as goal

abbrev pub invariant-loop-text : goal.invariant-loop-text
invariant-loop-text l = Texting (profile_of l.profile) l.width l.list l.initial.row l.initial.t l.start l.end l.text l.p l.scalar l.row l.t

abbrev pub decreases-loop-text : goal.decreases-loop-text
decreases-loop-text l = length l.text - l.p.0
