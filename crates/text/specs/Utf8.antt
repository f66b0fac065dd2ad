-- UTF-8: Unicode's table of well-formed sequences, and a line of bytes as scalars and damaged bytes.
use Rattle.std.specs.Prelude.{ℕ, zero, suc, ◌+◌, ◌*◌, ◌%◌, Bool, true, false, cond, ◌&&◌, ◌||◌, List, [], ◌∷◌, ◌++◌, length, take, leb, eqb}
pub mod Laws
pub mod Noise
pub mod Valid
pub mod Runs
pub mod Ascii
pub mod Separation
pub mod AsciiTexts
pub mod FirstByte
pub mod Controls
pub mod Code

-- ---- the table of well-formed sequences

pub record Range : Type 0 where
  pub low : ℕ
  pub high : ℕ

abbrev pub to : ℕ → ℕ → Range
to a b = record { low = a; high = b }

abbrev pub within : Range → ℕ → Bool
within r b = leb r.low b && leb b r.high

-- a continuation byte
abbrev pub tail : Range
tail = to 0x80 0xBF

-- Unicode, Table 3-7: each row the ranges of a sequence's bytes
unfoldable pub table : List (List Range)
table =
    (to 0x00 0x7F ∷ [])
    ∷ (to 0xC2 0xDF ∷ tail ∷ [])
    ∷ (to 0xE0 0xE0 ∷ to 0xA0 0xBF ∷ tail ∷ [])
    ∷ (to 0xE1 0xEC ∷ tail ∷ tail ∷ [])
    ∷ (to 0xED 0xED ∷ to 0x80 0x9F ∷ tail ∷ [])
    ∷ (to 0xEE 0xEF ∷ tail ∷ tail ∷ [])
    ∷ (to 0xF0 0xF0 ∷ to 0x90 0xBF ∷ tail ∷ tail ∷ [])
    ∷ (to 0xF1 0xF3 ∷ tail ∷ tail ∷ tail ∷ [])
    ∷ (to 0xF4 0xF4 ∷ to 0x80 0x8F ∷ tail ∷ tail ∷ [])
    ∷ []

-- the bytes begin with a sequence of this row
unfoldable pub fits : List Range → List ℕ → Bool
fits [] s = true
fits (r ∷ rs) [] = false
fits (r ∷ rs) (b ∷ s) = within r b && fits rs s

-- the length of the well-formed sequence that the bytes begin with; 0 where there is none
unfoldable pub length_in : List (List Range) → List ℕ → ℕ
length_in [] s = zero
length_in (row ∷ rows) s = cond (fits row s) (length row) (length_in rows s)

unfoldable pub sequence : List ℕ → ℕ
unfolding length_in fits table
sequence s = length_in table s

-- the scalar that a well-formed sequence stands for: Unicode, Table 3-6
unfoldable pub more : ℕ → List ℕ → ℕ
more v [] = v
more v (b ∷ s) = more (v * 64 + b % 64) s

unfoldable pub value : List ℕ → ℕ
unfolding more
value [] = 0
value (a ∷ []) = a
value (a ∷ b ∷ []) = more (a % 32) (b ∷ [])
value (a ∷ b ∷ c ∷ []) = more (a % 16) (b ∷ c ∷ [])
value (a ∷ b ∷ c ∷ d ∷ s) = more (a % 8) (b ∷ c ∷ d ∷ s)

-- ---- decoding

-- a scalar and the bytes that it was read from
pub record Scalar : Type 0 where
  pub code : ℕ
  pub bytes : List ℕ

unfoldable pub scalar : List ℕ → Scalar
unfolding value
scalar s = record { code = value s; bytes = s }

-- what stands at a place: a scalar, or a byte that begins no well-formed sequence
pub data Decoded : Type 0 where
  well_formed : Scalar → Decoded
  ill_formed : ℕ → Decoded

-- a sequence of n bytes, or where n is 0 one damaged byte; then what follows, n - 1 bytes of it being this sequence's
unfoldable pub decoded_as : ℕ → ℕ → List ℕ → (ℕ → List Decoded) → List Decoded
unfolding scalar
decoded_as zero b s go = ill_formed b ∷ go zero
decoded_as (suc n) b s go = well_formed (scalar (take (suc n) (b ∷ s))) ∷ go n

-- the bytes decoded, after k bytes that are passed over
unfoldable pub decode_from : ℕ → List ℕ → List Decoded
unfolding decoded_as sequence
decode_from k [] = []
decode_from zero (b ∷ s) = decoded_as (sequence (b ∷ s)) b s (λ k. decode_from k s)
decode_from (suc k) (b ∷ s) = decode_from k s

unfoldable pub decode : List ℕ → List Decoded
unfolding decode_from
decode s = decode_from zero s

-- ---- runs as str::from_utf8 splits them: valid text, and damaged bytes one by one

pub data Piece : Type 0 where
  run : List Scalar → Piece
  damaged : ℕ → Piece

unfoldable pub add_to_run : Scalar → List Piece → List Piece
add_to_run c [] = run (c ∷ []) ∷ []
add_to_run c (run s ∷ ps) = run (c ∷ s) ∷ ps
add_to_run c (damaged b ∷ ps) = run (c ∷ []) ∷ damaged b ∷ ps

unfoldable pub runs : List Decoded → List Piece
unfolding add_to_run
runs [] = []
runs (well_formed c ∷ ds) = add_to_run c (runs ds)
runs (ill_formed b ∷ ds) = damaged b ∷ runs ds

-- the scalars of the run that the bytes begin with
unfoldable pub run_of : List Decoded → List Scalar
run_of [] = []
run_of (well_formed c ∷ ds) = c ∷ run_of ds
run_of (ill_formed b ∷ ds) = []

-- ---- texts

unfoldable pub bytes_of : List Scalar → List ℕ
bytes_of [] = []
bytes_of (c ∷ s) = c.bytes ++ bytes_of s

-- a scalar below 80
abbrev pub ascii : ℕ → Scalar
ascii b = record { code = b; bytes = b ∷ [] }

unfoldable pub asciis : List ℕ → List Scalar
asciis [] = []
asciis (b ∷ s) = ascii b ∷ asciis s

unfoldable pub same_bytes : List ℕ → List ℕ → Bool
same_bytes [] [] = true
same_bytes [] (b ∷ t) = false
same_bytes (a ∷ s) [] = false
same_bytes (a ∷ s) (b ∷ t) = eqb a b && same_bytes s t

-- the text's bytes are these
unfoldable pub reads : List Scalar → List ℕ → Bool
unfolding bytes_of same_bytes
reads g s = same_bytes (bytes_of g) s

-- ---- demand 3's noise bytes: those that stand in no row of the table

unfoldable pub noise : ℕ → Bool
noise b = eqb b 0xC0 || (eqb b 0xC1 || (leb 0xF5 b && leb b 0xFF))

unfoldable pub all_noise : List ℕ → Bool
unfolding noise
all_noise [] = true
all_noise (n ∷ ns) = noise n && all_noise ns

-- the noise bytes of a line, in order
unfoldable pub noises_of : List ℕ → List ℕ
unfolding noise
noises_of [] = []
noises_of (b ∷ s) = let further : List ℕ = noises_of s in cond (noise b) (b ∷ further) further
