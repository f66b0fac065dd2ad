use Rattle.std.proofs.Common.{rules}
use Rattle.text.proofs.BackwardWalk.{pictograph_begin, pictograph_end, pictograph_on, pictograph_stop}
use Rattle.text.proofs.RegionalIndicators.{pictograph_even}
use Rattle.text.proofs.ContinuationBytes.{back_fits, back_less, back_room}
use Rattle.std.proofs.Common.{◌∙◌}
use Rattle.text.proofs.Classes.{is_number, no_number, same_number}
use Rattle.text.proofs.backward.Written.pictograph_to.Goals as goal

pub loop-i-init : goal.loop-i-init
loop-i-init c = (search rules, search pictograph_begin)

pub returns-then-i-self : goal.returns-then-i-self
returns-then-i-self c = search pictograph_even

pub class_at-c-requires : goal.class_at-c-requires
class_at-c-requires c = search back_room

pub loop-i-smaller : goal.loop-i-smaller
loop-i-smaller c = search back_less

pub loop-i-preserved : goal.loop-i-preserved
loop-i-preserved c = (search back_fits, search (pictograph_on, is_number _ _ 3 c.eq.ensures c.if-eq.true))

pub returns-else-eq : goal.returns-else-eq
returns-else-eq c = same_number _ _ 12 c.eq-else-eq.ensures ∙ search (pictograph_stop, no_number _ _ 3 c.eq.ensures c.if-eq.false)

pub returns : goal.returns
returns c = search pictograph_end
