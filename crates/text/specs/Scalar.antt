-- A scalar as one number.
use Rattle.std.specs.Prelude.{◌*◌, ◌+◌, ℕ, Option, None, Some, cond, List, eqb, drop}
use Rattle.text.specs.Class.{Profile, number}
use Rattle.text.specs.Utf8.Code.{sequence_or_zero}
use Rattle.text.specs.Utf8.{decode}
use Rattle.text.specs.declared.utf8.Sequence.{Sequence}
use Rattle.text.specs.declared.scalar.Scalar.{Scalar}
pub mod Laws

-- a scalar of so many bytes: their number, 8 times its class and 128 times its width
abbrev pub packed_as : Profile → ℕ → ℕ → ℕ
packed_as P n x = n + 8 * (number (P.class x) + 16 * P.width x)

-- 0 where there is none
abbrev pub packed : Profile → Sequence → ℕ
packed P u = cond (eqb u.len 0) 0 (packed_as P u.len u.code)

unfoldable pub packed_at : Profile → List ℕ → ℕ → ℕ
packed_at P s p = packed P (sequence_or_zero (decode (drop p s)))

-- the number as the code holds it, none for 0
abbrev pub scalar : ℕ → Scalar
scalar n = record { 0 = n }

unfoldable pub as_scalar : ℕ → Option Scalar
as_scalar n = cond (eqb n 0) None (Some (scalar n))

unfoldable pub scalar_here : Profile → List ℕ → ℕ → Option Scalar
unfolding as_scalar packed_at
scalar_here P s p = as_scalar (packed_at P s p)

-- and back
unfoldable pub number_in : Option Scalar → ℕ
number_in None = 0
number_in (Some v) = v.0
