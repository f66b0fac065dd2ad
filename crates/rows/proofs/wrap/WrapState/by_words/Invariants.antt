use Rattle.rows.proofs.WrappedTexts.{Wording}
use Rattle.text.specs.Class.Code.{profile_of}
use Prim.Native.Nat.{◌-◌}
use lib.ListN.{length}
use Rattle.rows.proofs.wrap.WrapState.by_words.Given as goal

abbrev pub invariant-loop-p : goal.invariant-loop-p
invariant-loop-p l = Wording (profile_of l.wrapping.profile) l.wrapping.width.0 l.text l.initial.rows l.initial.self l.p l.rows l.self

abbrev pub decreases-loop-p : goal.decreases-loop-p
decreases-loop-p l = length l.text - l.p.0
