use Rattle.spans.proofs.Searching.{pair_fails, pair_passes, order_ends}
use Rattle.spans.proofs.search.in_order.Goals as goal

pub returns-then-not-pair_in_order : goal.returns-then-not-pair_in_order
returns-then-not-pair_in_order c = pair_fails _ _ _ _ c.loop-rest.invariant c.in-len2-up.len_at_least _ c.pair_in_order.ensures c.if-not-pair_in_order.true

pub loop-rest-preserved : goal.loop-rest-preserved
loop-rest-preserved c = pair_passes _ _ _ _ c.loop-rest.invariant c.in-len2-up.len_at_least _ c.pair_in_order.ensures c.if-not-pair_in_order.false

pub returns : goal.returns
returns c = order_ends _ _ _ _ c.loop-rest.invariant c.in_default.len_below _ c.is_empty.ensures
