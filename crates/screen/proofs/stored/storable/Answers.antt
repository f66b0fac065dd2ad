use Rattle.std.proofs.Common.{rules}
use Rattle.screen.proofs.Storing.{check_begin, check_short, check_long, check_head, check_whole, check_malformed, check_inside, check_less, check_turn}
use Rattle.screen.proofs.stored.storable.Goals as goal

pub loop-at-init : goal.loop-at-init
loop-at-init c = search check_begin

pub head_at-head-requires : goal.head_at-head-requires
head_at-head-requires c = search check_head

pub is_formed-requires : goal.is_formed-requires
is_formed-requires c = search check_whole

pub overflow_add-at : goal.overflow_add-at
overflow_add-at c = let s = c.before.before.before.before in let h = check_inside _ _ _ _ _ s.before.before.loop-at.invariant s.before.loop-at-test.true _ s.head_at-head.ensures _ c.before.before.before.is_formed.ensures c.before.before.if-not-is_formed.false in search (rules, h)

pub loop-at-smaller : goal.loop-at-smaller
loop-at-smaller c = search check_less

pub loop-at-preserved : goal.loop-at-preserved
loop-at-preserved c = search check_turn

pub returns-then-not-is_formed : goal.returns-then-not-is_formed
returns-then-not-is_formed c = search check_malformed

pub returns-then-short : goal.returns-then-short
returns-then-short c = search check_short

pub returns-else-short : goal.returns-else-short
returns-else-short c = search check_long
