use Rattle.std.proofs.Common.{rules}
use Rattle.screen.proofs.Storing.{write_begin, write_done, write_head, write_inside, write_less, write_turn}
use Rattle.screen.proofs.stored.write_records.Goals as goal

pub loop-at-init : goal.loop-at-init
loop-at-init c = search write_begin

pub head_at-head-requires : goal.head_at-head-requires
head_at-head-requires c = search write_head

pub overflow_add-end : goal.overflow_add-end
overflow_add-end c = let h = write_inside _ _ _ _ _ _ _ c.before.before.before.loop-at.invariant c.before.before.loop-at-test.true _ c.before.head_at-head.ensures in search (rules, h)

pub slice_bounds-write_record-end : goal.slice_bounds-write_record-end
slice_bounds-write_record-end c = search write_inside

pub loop-at-smaller : goal.loop-at-smaller
loop-at-smaller c = search write_less

pub loop-at-preserved : goal.loop-at-preserved
loop-at-preserved c = search write_turn

pub returns : goal.returns
returns c = search write_done
