use native.Mathlib.Omega.{arith}
use Rattle.text.proofs.PackedScalars.{first_here, four_here, four_nothing, second_nothing, third_nothing, three_here, three_nothing, two_here, two_nothing}
use Rattle.text.proofs.scalar.scalar_at.Goals as goal

pub overflow_cast-a : goal.overflow_cast-a
overflow_cast-a c = omega (arith, c.type_inv.s c.args.at)

pub returns-then-a-le127 : goal.returns-then-a-le127
returns-then-a-le127 c = search first_here

pub returns-then-not-is_tail : goal.returns-then-not-is_tail
returns-then-not-is_tail c = search second_nothing

pub returns-in_err-x : goal.returns-in_err-x
returns-in_err-x c = search (two_nothing, c.in_err-x.was) fits 20000

pub returns-then-a-le223 : goal.returns-then-a-le223
returns-then-a-le223 c = search (two_here, c.in_ok-x.was) fits 20000

pub returns-then-not-is_tail-2 : goal.returns-then-not-is_tail-2
returns-then-not-is_tail-2 c = search third_nothing

pub returns-in_err-x-2 : goal.returns-in_err-x-2
returns-in_err-x-2 c = search (three_nothing, c.in_err-x-2.was) fits 20000

pub returns-then-a-le239 : goal.returns-then-a-le239
returns-then-a-le239 c = search (three_here, c.in_ok-x-2.was) fits 20000

pub returns-in_err-x-3 : goal.returns-in_err-x-3
returns-in_err-x-3 c = search (four_nothing, c.in_err-x-3.was) fits 20000

pub returns : goal.returns
returns c = search (four_here, c.in_ok-x-3.was) fits 20000
