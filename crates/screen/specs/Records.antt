-- A change list's bytes as records: a little-endian length of the body, a 2-byte kind, the body.
use Rattle.std.specs.Prelude.{ℕ, zero, suc, ◌+◌, ◌*◌, Bool, cond, List, [], ◌∷◌, ◌++◌, length, take, drop, leb, eqb}
use Rattle.buffer.specs.Numbers.{le2, le4}
pub mod Lengths
pub mod Laws
pub mod Contracts

-- a little-endian number
unfoldable pub little_endian : List ℕ → ℕ
little_endian [] = 0
little_endian (b ∷ s) = b + 256 * little_endian s

-- a record; not whole where its head or its body goes past the end
pub record Record : Type 0 where
  pub whole : Bool
  pub kind : ℕ
  pub body : List ℕ

-- the record that the bytes begin with; a head is a length of n bytes and a kind of 2 (n is 4, in the stored form 2)
unfoldable pub record_at : ℕ → List ℕ → Record
unfolding little_endian
record_at n s =
    let size : ℕ = little_endian (take n s) in
    record { whole = leb (n + 2 + size) (length s); kind = little_endian (take 2 (drop n s)); body = take size (drop (n + 2) s) }

-- the records, after k bytes that are passed over; one that is not whole is the last
unfoldable pub records_from : ℕ → ℕ → List ℕ → List Record
unfolding record_at
records_from n k [] = []
records_from n zero (b ∷ s) =
    let r : Record = record_at n (b ∷ s) in
    r ∷ records_from n (n + 1 + length r.body) s
records_from n (suc k) (b ∷ s) = records_from n k s

unfoldable pub records : ℕ → List ℕ → List Record
unfolding records_from
records n s = records_from n zero s

-- ---- records in bytes

-- a length in n bytes
abbrev pub length_bytes : ℕ → ℕ → List ℕ
length_bytes n size = cond (eqb n 2) (le2 size) (le4 size)

unfoldable pub encode_one : ℕ → Record → List ℕ
unfolding le2 le4
encode_one n r = length_bytes n (length r.body) ++ (le2 r.kind ++ r.body)

unfoldable pub encode : ℕ → List Record → List ℕ
unfolding encode_one
encode n [] = []
encode n (r ∷ rs) = encode_one n r ++ encode n rs
