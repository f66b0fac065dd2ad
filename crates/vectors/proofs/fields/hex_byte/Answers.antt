use Rattle.std.proofs.Common.{rules}
use native.Mathlib.Omega.{arith}
use Rattle.vectors.specs.Fields.{hex_byte}
use Rattle.vectors.proofs.FieldText.{digit_small}
use Rattle.vectors.proofs.fields.hex_byte.Goals as goal

pub overflow_mul-result : goal.overflow_mul-result
overflow_mul-result c = omega (arith, digit_small _ _ c.digit.ensures)

pub overflow_add-result : goal.overflow_add-result
overflow_add-result c = omega (arith, digit_small _ _ c.before.digit.ensures, digit_small _ _ c.digit-2.ensures)

pub returns : goal.returns
unfolding hex_byte
returns c = search rules
