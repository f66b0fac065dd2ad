use Rattle.drawing.proofs.RenderSpans.{SpansDrawn}
use Rattle.drawing.proofs.render.render.Given as goal

abbrev pub invariant-loop-span : goal.invariant-loop-span
invariant-loop-span l = SpansDrawn l.rendering l.line l.spans l.initial.list l.initial.at l.span-index l.list l.at l.state
