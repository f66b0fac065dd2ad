use Rattle.std.proofs.Common.{rules, arith}
use Rattle.drawing.proofs.LineDrawing.{replaceable, convert_begin, convert_past, convert_bad, convert_step, convert_replaced, convert_kept}
use Rattle.drawing.proofs.line_drawing.convert_line_drawing.Goals as goal

pub loop-p-init : goal.loop-p-init
loop-p-init c = (search convert_begin, search rules)

pub returns-in_default : goal.returns-in_default
returns-in_default c = search convert_bad

pub overflow_add-end : goal.overflow_add-end
overflow_add-end c = omega (arith, (convert_step c.loop-p.invariant.0 c.loop-p-test.true _ c.decode.ensures _ c.in-Some.is).1)

pub push_replacement-a-requires : goal.push_replacement-a-requires
push_replacement-a-requires c = search replaceable

pub slice_bounds-push_elements-end : goal.slice_bounds-push_elements-end
slice_bounds-push_elements-end c = (convert_step c.loop-p.invariant.0 c.loop-p-test.true _ c.decode.ensures _ c.in-Some.is).1

pub loop-p-smaller-then-scalar : goal.loop-p-smaller-then-scalar
loop-p-smaller-then-scalar c = let a = (convert_step c.loop-p.invariant.0 c.loop-p-test.true _ c.decode.ensures _ c.in-Some.is) in omega (arith, a.0, a.1)

pub loop-p-preserved-then-scalar : goal.loop-p-preserved-then-scalar
loop-p-preserved-then-scalar c = (search convert_replaced, search rules)

pub loop-p-smaller : goal.loop-p-smaller
loop-p-smaller c = let a = (convert_step c.loop-p.invariant.0 c.loop-p-test.true _ c.decode.ensures _ c.in-Some.is) in omega (arith, a.0, a.1)

pub loop-p-preserved : goal.loop-p-preserved
loop-p-preserved c = (search convert_kept, search rules)

pub returns : goal.returns
returns c = search convert_past
