use Rattle.std.proofs.Common.{arith}
use Rattle.drawing.proofs.Clipping.{measure_begin, measure_byte, measure_room, measure_on, measure_bad, measure_end}
use Rattle.drawing.proofs.clip.measure_scalars.Goals as goal

pub loop-end-init : goal.loop-end-init
loop-end-init c = search measure_begin

pub loop-end-preserved-then-is_printable : goal.loop-end-preserved-then-is_printable
loop-end-preserved-then-is_printable c = search measure_byte

pub returns-in_default : goal.returns-in_default
returns-in_default c = search measure_bad

pub overflow_add-width-else-is_printable : goal.overflow_add-width-else-is_printable
overflow_add-width-else-is_printable c = omega (arith, (measure_room _ _ _ _ c.scalar_at.ensures _ c.in-Some.is).1.1)

pub overflow_add-end-else-is_printable : goal.overflow_add-end-else-is_printable
overflow_add-end-else-is_printable c = omega (arith, (measure_room _ _ _ _ c.scalar_at.ensures _ c.in-Some.is).1.0)

pub loop-end-smaller : goal.loop-end-smaller
loop-end-smaller c = let a = (measure_room _ _ _ _ c.scalar_at.ensures _ c.in-Some.is) in omega (arith, a.0, a.1.0)

pub loop-end-preserved : goal.loop-end-preserved
loop-end-preserved c = search measure_on

pub returns : goal.returns
returns c = search measure_end
