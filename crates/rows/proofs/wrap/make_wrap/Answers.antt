use Rattle.std.proofs.Common.{arith}
use Rattle.rows.proofs.WrappedSpans.{spans_begin, turn_room, spans_turn, spans_end}
use Rattle.rows.proofs.wrap.make_wrap.Goals as goal

pub loop-span-init : goal.loop-span-init
loop-span-init c = spans_begin _ _ _ _ _ _ _ c.requires

pub split_span-requires : goal.split_span-requires
split_span-requires c = turn_room _ _ _ _ _ _ _ c.requires _ _ _ c.loop-span.invariant (omega arith)

pub loop-span-preserved : goal.loop-span-preserved
loop-span-preserved c = spans_turn _ _ _ _ _ _ _ c.requires _ _ _ c.loop-span.invariant _ _ (omega arith) c.split_span.ensures

pub returns : goal.returns
returns c = spans_end _ _ _ _ _ _ _ c.requires _ _ _ c.loop-span.invariant _ _ (omega (arith, c.loop-span.invariant.inside)) c.last_row.ensures
