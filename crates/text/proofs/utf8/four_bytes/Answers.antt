use mathlib.Core.Path.{refl}
use Rattle.text.proofs.utf8.four_bytes.Goals as goal

pub returns-then-a-is_tail : goal.returns-then-a-is_tail
returns-then-a-is_tail c = rw (← c.before.is_tail.ensures, c.if-a-is_tail.true) refl

pub returns : goal.returns
returns c = rw (← c.before.is_tail.ensures, c.if-a-is_tail.false) refl
