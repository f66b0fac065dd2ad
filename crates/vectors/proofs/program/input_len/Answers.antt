use native.Mathlib.Omega.{arith}
use Rattle.buffer.specs.Numbers.Laws.{smaller_right}
use Rattle.vectors.proofs.program.input_len.Goals as goal

pub overflow_add-result : goal.overflow_add-result
overflow_add-result c = let a = c.before.before.args in
    omega (arith, smaller_right a.prefix 64 c.before.min.result c.before.min.ensures, smaller_right a.times 10000000 c.min-2.result c.min-2.ensures)

pub overflow_add-result-2 : goal.overflow_add-result-2
overflow_add-result-2 c = let a = c.before.before.before.args in
    omega (arith, smaller_right a.prefix 64 c.before.before.min.result c.before.before.min.ensures, smaller_right a.times 10000000 c.before.min-2.result c.before.min-2.ensures, smaller_right a.suffix 64 c.min-3.result c.min-3.ensures)
