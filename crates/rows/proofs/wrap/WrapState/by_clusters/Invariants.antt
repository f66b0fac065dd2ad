use Prim.Native.Nat.{◌-◌}
use lib.ListN.{length}
use Rattle.text.specs.Class.Code.{profile_of}
use Rattle.rows.proofs.WrappedTexts.{Breaking}
use Rattle.rows.proofs.wrap.WrapState.by_clusters.Given as goal

abbrev pub invariant-loop-wrapping : goal.invariant-loop-wrapping
invariant-loop-wrapping l = Breaking (profile_of l.wrapping.profile) l.wrapping.width.0 l.text l.initial.rows l.initial.self l.p l.scalar l.rows l.self

abbrev pub decreases-loop-wrapping : goal.decreases-loop-wrapping
decreases-loop-wrapping l = length l.text - l.p.0
