-- The input of a case of the rows program: a prefix, one byte repeated, and a suffix.
use Rattle.std.specs.Prelude.{ℕ, zero, suc, ◌+◌, ◌-◌, cond, List, [], ◌∷◌, length, get_or, ltb}
use Rattle.buffer.specs.Numbers.{smaller_of}

-- the byte at a place
unfoldable pub input_at : List ℕ → ℕ → ℕ → List ℕ → ℕ → ℕ
input_at prefix byte times suffix i =
    cond (ltb i (length prefix)) (get_or prefix i 0)
    (cond (ltb (i - length prefix) times) byte (get_or suffix (i - length prefix - times) 0))

-- how many bytes it has, as far as a case may have them: 64 around the byte, and that 10,000,000 times
abbrev pub input_len : ℕ → ℕ → ℕ → ℕ
input_len prefix times suffix = smaller_of prefix 64 + smaller_of times 10000000 + smaller_of suffix 64

-- n bytes from a place on
unfoldable pub part_of : (ℕ → ℕ) → ℕ → ℕ → List ℕ
part_of f at zero = []
part_of f at (suc n) = f at ∷ part_of f (suc at) n
