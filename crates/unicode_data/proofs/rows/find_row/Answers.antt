use native.Mathlib.Omega.{arith}
use Rattle.unicode_data.proofs.FindRow.{begun, ended, go_low, go_high, found}
use Rattle.unicode_data.proofs.rows.find_row.Goals as goal

pub loop-low-init : goal.loop-low-init
loop-low-init c = search begun

pub overflow_sub-middle : goal.overflow_sub-middle
overflow_sub-middle c = omega arith

pub overflow_add-middle : goal.overflow_add-middle
overflow_add-middle c = omega arith

pub overflow_mul-at : goal.overflow_mul-at
overflow_mul-at c = omega arith

pub offset_bounds-rows-at : goal.offset_bounds-rows-at
offset_bounds-rows-at c = omega arith

pub bounds-rows-at : goal.bounds-rows-at
bounds-rows-at c = omega arith

pub loop-low-smaller-then-x-rows : goal.loop-low-smaller-then-x-rows
loop-low-smaller-then-x-rows c = omega arith

pub loop-low-preserved-then-x-rows : goal.loop-low-preserved-then-x-rows
loop-low-preserved-then-x-rows c = search go_low

pub overflow_add-at : goal.overflow_add-at
overflow_add-at c = omega arith

pub offset_bounds-rows-at-else-x-rows : goal.offset_bounds-rows-at-else-x-rows
offset_bounds-rows-at-else-x-rows c = omega arith

pub bounds-rows-at-else-x-rows : goal.bounds-rows-at-else-x-rows
bounds-rows-at-else-x-rows c = omega arith

pub overflow_add-low : goal.overflow_add-low
overflow_add-low c = omega arith

pub loop-low-smaller : goal.loop-low-smaller
loop-low-smaller c = omega arith

pub loop-low-preserved : goal.loop-low-preserved
loop-low-preserved c = search go_high

pub overflow_add-result : goal.overflow_add-result
overflow_add-result c = omega arith

pub offset_bounds-rows-at-else-rows-at : goal.offset_bounds-rows-at-else-rows-at
offset_bounds-rows-at-else-rows-at c = omega arith

pub bounds-rows-at-else-rows-at : goal.bounds-rows-at-else-rows-at
bounds-rows-at-else-rows-at c = omega arith

pub returns-else-rows-at : goal.returns-else-rows-at
returns-else-rows-at c = search found

pub returns : goal.returns
returns c = search ended
