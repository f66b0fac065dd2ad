-- Numbers: the smaller of two, and numbers as bytes.
use Rattle.std.specs.Prelude.{ℕ, ◌+◌, ◌/◌, ◌%◌, cond, List, [], ◌∷◌, ltb, min}
pub mod Laws
pub mod Parts

abbrev pub smaller_of : ℕ → ℕ → ℕ
smaller_of a b = min a b

-- little-endian
unfoldable pub le2 : ℕ → List ℕ
le2 n = n % 256 ∷ n / 256 % 256 ∷ []

unfoldable pub le4 : ℕ → List ℕ
le4 n = n % 256 ∷ n / 256 % 256 ∷ n / 65536 % 256 ∷ n / 16777216 % 256 ∷ []

-- `0` to `9` and `A` to `F`
unfoldable pub hex_digit : ℕ → ℕ
hex_digit n = cond (ltb n 10) (0x30 + n) (0x37 + n)
