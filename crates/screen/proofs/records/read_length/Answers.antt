use native.Mathlib.Omega.{arith}
use Rattle.screen.proofs.Heads.{length_two, length_four}
use Rattle.screen.proofs.records.read_length.Goals as goal

pub returns-then-size-eq2 : goal.returns-then-size-eq2
returns-then-size-eq2 c = record { value = search length_two; upper_bound = omega (arith, c.read_le2-low.ensures.upper_bound) }

pub returns : goal.returns
returns c = record { value = search length_four; upper_bound = omega (arith, c.read_le2-low.ensures.upper_bound, c.read_le2.ensures.upper_bound) }
