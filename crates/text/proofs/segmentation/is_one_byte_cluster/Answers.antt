use native.Mathlib.Omega.{arith}
use mathlib.Core.Path.{refl}
use borrow.Author.Tests.{le-ltb, lt-ltb}
use Rattle.text.proofs.ForwardWalk.{not_one_byte}
use Rattle.text.proofs.segmentation.is_one_byte_cluster.Goals as goal

pub overflow_cast-a : goal.overflow_cast-a
overflow_cast-a c = omega (arith, c.type_inv.s c.args.at)

pub returns-then-a-ge128 : goal.returns-then-a-ge128
returns-then-a-ge128 c = not_one_byte c.before.before.before.args.s.now c.before.before.before.args.at c.if-a-ge128.true

pub returns-then-a-lt32 : goal.returns-then-a-lt32
returns-then-a-lt32 c = rw (lt-ltb _ 0x20 c.if-a-lt32.true) refl

pub returns : goal.returns
returns c = rw (le-ltb _ 0x20 c.before.if-a-lt32.false, lt-ltb _ 0x80 c.before.before.if-a-ge128.false, c.byte_at.ensures) refl
