use native.Mathlib.Omega.{arith}
use Rattle.text.specs.Utf8.Code.FirstSequence.{ascii_some}
use Rattle.text.proofs.utf8.decode.Goals as goal

pub overflow_cast-a : goal.overflow_cast-a
overflow_cast-a c = omega (arith, c.type_inv.s c.args.at)

pub returns-then-a-le127 : goal.returns-then-a-le127
returns-then-a-le127 c = search ascii_some
