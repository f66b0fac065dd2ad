use Rattle.std.proofs.Common.{rules}
use Rattle.text.proofs.BackwardWalk.{joins_pair, joins_picture, joins_single, joins_zero, start_before}
use Rattle.text.proofs.Classes.{both}
use Rattle.text.proofs.RegionalIndicators.{joins_even_place}
use Rattle.text.proofs.ContinuationBytes.{back_inside, back_within}
use Rattle.text.proofs.backward.Written.joins_at.Goals as goal

pub returns-then-q-eq0 : goal.returns-then-q-eq0
returns-then-q-eq0 c = search joins_zero

pub class_at-p-requires : goal.class_at-p-requires
class_at-p-requires c = search back_inside

pub returns-then-eq : goal.returns-then-eq
returns-then-eq c = search (joins_pair, both _ _ _ _ 10 10 _ c.eq.ensures c.eq-2.ensures c.if-eq.true)

pub returns-then-q-self : goal.returns-then-q-self
returns-then-q-self c = search (joins_even_place, both _ _ _ _ 4 12 _ c.eq-3.ensures c.eq-4.ensures c.if-eq-2.true)

pub pictograph_to-requires : goal.pictograph_to-requires
pictograph_to-requires c = (search back_within, search start_before, search rules)

pub returns-then-eq-2 : goal.returns-then-eq-2
returns-then-eq-2 c = search (joins_picture, both _ _ _ _ 4 12 _ c.eq-3.ensures c.eq-4.ensures c.if-eq-2.true)

pub returns : goal.returns
returns c = search (joins_single, both _ _ _ _ 10 10 _ c.eq.ensures c.eq-2.ensures c.if-eq.false, both _ _ _ _ 4 12 _ c.eq-3.ensures c.eq-4.ensures c.if-eq-2.false)
