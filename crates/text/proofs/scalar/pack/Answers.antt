use Rattle.text.specs.Width.Laws.{width_two}
use native.Mathlib.Omega.{arith}
use Rattle.text.proofs.scalar.pack.Goals as goal

pub overflow_cast-w : goal.overflow_cast-w
overflow_cast-w c = omega (arith, width_two _ _ _ c.width-w.ensures)

pub new-requires : goal.new-requires
new-requires c = (c.requires, width_two _ _ _ c.width-w.ensures)
