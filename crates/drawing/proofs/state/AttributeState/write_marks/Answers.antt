use Rattle.std.proofs.Common.{rules, arith}
use Rattle.drawing.proofs.Marks.{marks_begin, marks_end, marks_bad, marks_step, marks_turn}
use Rattle.drawing.proofs.state.AttributeState.write_marks.Goals as goal

pub loop-p-init : goal.loop-p-init
loop-p-init c = (search marks_begin, search rules)

pub returns-in_default : goal.returns-in_default
returns-in_default c = search marks_bad

pub overflow_add-p : goal.overflow_add-p
overflow_add-p c = omega (arith, (marks_step c.loop-p.invariant.0 c.loop-p-test.true _ c.decode.ensures _ c.in-Some.is).1)

pub loop-p-smaller : goal.loop-p-smaller
loop-p-smaller c = let a = (marks_step c.loop-p.invariant.0 c.loop-p-test.true _ c.decode.ensures _ c.in-Some.is) in omega (arith, a.0, a.1)

pub loop-p-preserved : goal.loop-p-preserved
loop-p-preserved c = (search marks_turn, search rules)

pub returns : goal.returns
returns c = search marks_end
