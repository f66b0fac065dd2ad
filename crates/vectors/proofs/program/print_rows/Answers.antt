use Rattle.std.proofs.Common.{rules}
use native.Mathlib.Omega.{arith}
use Prim.Native.Nat.{◌-◌}
use Rattle.buffer.specs.Numbers.Laws.{smaller_right}
use Rattle.vectors.proofs.InputParts.{input_bound}
use Rattle.vectors.proofs.program.print_rows.Goals as goal

pub loop-at-init : goal.loop-at-init
loop-at-init c = (search rules, search rules, search input_bound)

pub overflow_add-end : goal.overflow_add-end
overflow_add-end c = let total = c.before.before.before.before.before.before.before.before.before.before.before.before.before.before.input_len-total.result in let later = c.before.before.before.before.before.before.before.before.before.before.before.before.before.before.before.before.before.before.args.later in let l = c.before.before.before.before.loop-at in omega (arith, smaller_right later (total - l.at) c.min-in-loop-at.result c.min-in-loop-at.ensures, c.before.before.before.loop-at-test.true, l.invariant)
