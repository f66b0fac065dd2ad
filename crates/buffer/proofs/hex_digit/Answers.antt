use Rattle.std.proofs.Common.{arith}
use borrow.Author.Tests.{lt-ltb, le-ltb}
use Rattle.buffer.specs.Numbers.{hex_digit}
use Rattle.buffer.proofs.hex_digit.Goals as goal

pub returns-then-digit-lt10 : goal.returns-then-digit-lt10
unfolding hex_digit
returns-then-digit-lt10 c = simp (lt-ltb _ _ c.if-digit-lt10.true)

pub returns-else-digit-lt10 : goal.returns-else-digit-lt10
unfolding hex_digit
returns-else-digit-lt10 c = simp (le-ltb _ _ c.if-digit-lt10.false) (omega arith)
