use native.Mathlib.Omega.{arith}
use Rattle.text.proofs.LeadBytes.{four_at, none_second, none_third, three_at, two_at}
use Rattle.text.proofs.utf8.decode_long.Goals as goal

pub overflow_cast-a : goal.overflow_cast-a
overflow_cast-a c = omega (arith, c.type_inv.s c.args.at)

pub returns-then-not-is_tail : goal.returns-then-not-is_tail
returns-then-not-is_tail c = search none_second

pub returns-then-a-le223 : goal.returns-then-a-le223
returns-then-a-le223 c = search two_at

pub returns-then-not-is_tail-2 : goal.returns-then-not-is_tail-2
returns-then-not-is_tail-2 c = search none_third

pub returns-then-a-le239 : goal.returns-then-a-le239
returns-then-a-le239 c = search three_at

pub returns : goal.returns
returns c = search four_at
