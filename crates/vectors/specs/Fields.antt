-- The fields of a case, parted by single spaces, and what stands in them.
use Rattle.std.specs.Prelude.{ℕ, suc, ◌+◌, ◌-◌, ◌*◌, ◌/◌, ◌%◌, ◌≡◌, cond, ◌&&◌, List, [], ◌∷◌, length, take, drop, get_or, eqb, leb, ltb}
use Rattle.std.specs.List.{position_or_len}
use Rattle.io.specs.Counts.{IsPrefixLen}
use Rattle.buffer.specs.Sink.{Sink, sink, emit}
use Rattle.buffer.specs.Numbers.{smaller_of}

-- where the n-th field begins, or the end where there are fewer
unfoldable pub start_of : List ℕ → ℕ → ℕ
start_of [] n = 0
start_of (b ∷ s) n = let further : ℕ = suc (start_of s (cond (eqb b 0x20) (n - 1) n)) in cond (eqb n 0) 0 further

-- the first place of a byte, or the length where there is none
abbrev pub index_of : ℕ → List ℕ → ℕ
index_of b s = position_or_len (λ x. eqb x b) s

-- the n-th field, counted from 0
unfoldable pub field_of : List ℕ → ℕ → List ℕ
unfolding start_of
field_of s n = take (index_of 0x20 (drop (start_of s n) s)) (drop (start_of s n) s)

-- the value of a decimal or hexadecimal digit, 16 for any other byte
unfoldable pub digit_of : ℕ → ℕ
digit_of b = cond (leb 0x30 b && leb b 0x39) (b - 0x30) (cond (leb 0x61 b && leb b 0x66) (b - 0x57) 16)

-- a decimal digit more; where there is no such digit or no such number, the largest number
unfoldable pub with_digit : ℕ → ℕ → ℕ
unfolding digit_of
with_digit n b =
    cond (ltb 9 (digit_of b)) 18446744073709551615
    (cond (leb n ((18446744073709551615 - digit_of b) / 10)) (n * 10 + digit_of b) 18446744073709551615)

unfoldable pub decimal : ℕ → List ℕ → ℕ
unfolding with_digit
decimal n [] = n
decimal n (b ∷ s) = decimal (with_digit n b) s

-- the numbers of a list, parted by commas; n is what was read of the first
unfoldable pub listed_from : ℕ → List ℕ → List ℕ
unfolding with_digit
listed_from n [] = n ∷ []
listed_from n (b ∷ s) =
    let behind : List ℕ = n ∷ listed_from 0 s in
    let further : List ℕ = listed_from (with_digit n b) s in
    cond (eqb b 0x2C) behind further

unfoldable pub listed : List ℕ → List ℕ
unfolding listed_from
listed s = let numbers : List ℕ = listed_from 0 s in cond (eqb (get_or s 0 0) 0x2D) [] numbers

-- two hexadecimal digits a byte
unfoldable pub hex_byte : ℕ → ℕ → ℕ
unfolding digit_of
hex_byte high low = (digit_of high * 16 + digit_of low) % 256

unfoldable pub hex_bytes : List ℕ → List ℕ
unfolding hex_byte
hex_bytes [] = []
hex_bytes (high ∷ []) = []
hex_bytes (high ∷ low ∷ s) = hex_byte high low ∷ hex_bytes s

-- a count that ends with the buffer
abbrev pub clipped : Sink ℕ → Sink ℕ
clipped (sink l n) = sink l (smaller_of n (length l))

-- xs in the front of a buffer, as many as it holds, and how many
pub record Filled (before after xs : List ℕ) (r : ℕ) : Type 0 where
  pub filled : sink after r ≡ clipped (emit (sink before 0) xs)
  pub inside : IsPrefixLen r after
