use Rattle.drawing.specs.Attributes.{plain}
use Rattle.drawing.proofs.RenderSpans.{spans_begin, spans_turn, spans_end, turn_room}
use Rattle.drawing.proofs.render.render.Goals as goal

pub loop-span-init : goal.loop-span-init
unfolding plain
loop-span-init c = spans_begin _ _ _ _ _ c.requires

pub loop-span-preserved : goal.loop-span-preserved
loop-span-preserved c = spans_turn _ _ _ _ _ c.requires _ _ _ _ c.loop-span.invariant _ _ _ c.loop-span-test.true c.render_span-at.ensures

pub render_span-at-requires : goal.render_span-at-requires
render_span-at-requires c = turn_room _ _ _ _ _ c.requires _ _ _ _ c.loop-span.invariant c.loop-span-test.true

pub returns : goal.returns
returns c = spans_end _ _ _ _ _ c.requires _ _ _ _ c.loop-span.invariant _ _ _ c.open-at.ensures c.loop-span-test.false c.close.ensures
