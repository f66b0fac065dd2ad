use Rattle.drawing.proofs.Marks.{bytes_begin, bytes_turn, bytes_end}
use Rattle.drawing.proofs.mark.push_mark_bytes.Goals as goal

pub loop-i-init : goal.loop-i-init
loop-i-init c = search bytes_begin

pub loop-i-preserved : goal.loop-i-preserved
loop-i-preserved c = bytes_turn _ _ _ _ _ _ _ _ _ c.loop-i.invariant _ _ _ c.loop-i-test.true c.mark_byte.ensures c.push_element-at.ensures c.push_element-at.auto.out

pub returns : goal.returns
returns c = search bytes_end
