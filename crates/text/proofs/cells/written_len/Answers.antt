use native.Mathlib.Omega.{arith}
use Rattle.text.proofs.CellLoops.{counted_begin, counted_end, counted_most, counted_past, counted_turn}
use Rattle.text.proofs.cells.written_len.Goals as goal

pub loop-left-init : goal.loop-left-init
loop-left-init c = search counted_begin

pub overflow_add-n : goal.overflow_add-n
overflow_add-n c = omega (arith, counted_most _ _ _ c.loop-left.invariant c.in-len2-up.len_at_least _ c.overstruck_len-n.ensures)

pub returns-then-n-gt4096 : goal.returns-then-n-gt4096
returns-then-n-gt4096 c = counted_past _ _ _ c.loop-left.invariant c.in-len2-up.len_at_least _ c.overstruck_len-n.ensures c.if-n-gt4096.true

pub loop-left-preserved : goal.loop-left-preserved
loop-left-preserved c = counted_turn _ _ _ c.loop-left.invariant c.in-len2-up.len_at_least _ c.overstruck_len-n.ensures c.if-n-gt4096.false

pub returns : goal.returns
returns c = counted_end _ _ _ c.loop-left.invariant c.in_default.len_below
