use Rattle.spans.proofs.SegmentCursor.{records_begin, records_going, records_ready, records_more, records_none, records_first, records_goes}
use Rattle.spans.proofs.segments.RecordsIterator.next.Goals as goal

pub loop-self-init : goal.loop-self-init
loop-self-init c = records_begin _ c.requires

pub advance-self-requires : goal.advance-self-requires
advance-self-requires c = records_going _ _ c.loop-self.invariant _ c.is_spent.ensures c.loop-self-test.true

pub loop-self-preserved : goal.loop-self-preserved
loop-self-preserved c = records_more _ _ c.loop-self.invariant _ c.is_spent.ensures c.loop-self-test.true _ c.advance-self.ensures

pub returns-then-end-self-clause-steps : goal.returns-then-end-self-clause-steps
returns-then-end-self-clause-steps c = records_none _ _ c.loop-self.invariant _ c.is_spent.ensures c.loop-self-test.false _ c.min-end.ensures c.if-end-self.true

pub next_span-next-requires : goal.next_span-next-requires
next_span-next-requires c = records_ready _ _ c.loop-self.invariant _ c.is_spent.ensures c.loop-self-test.false _ c.min-end.ensures c.if-end-self.false

pub returns-clause-steps : goal.returns-clause-steps
returns-clause-steps c = records_first _ _ c.loop-self.invariant _ c.is_spent.ensures c.loop-self-test.false _ c.min-end.ensures _ c.next_span-next.ensures

pub returns-clause-goes : goal.returns-clause-goes
returns-clause-goes c = records_goes _ _ c.loop-self.invariant _ c.is_spent.ensures c.loop-self-test.false _ c.min-end.ensures _ c.next_span-next.ensures
