use native.Mathlib.Omega.{arith}
use Rattle.screen.proofs.Heads.{le2_is}
use Rattle.screen.proofs.records.read_le2.Goals as goal

pub returns : goal.returns
returns c = record { value = search le2_is; upper_bound = omega (arith, c.byte_at.type_inv, c.byte_at-2.type_inv) }
