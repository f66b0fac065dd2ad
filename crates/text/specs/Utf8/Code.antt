-- What the values of utf8's code say of the definitions' ones.
use Rattle.std.specs.Prelude.{◌%◌, ◌*◌, ◌+◌, ◌-◌, suc, ℕ, Option, None, Some, Bool, ◌&&◌, ◌||◌, cond, List, [], ◌∷◌, ◌≡◌, eqb, leb, ltb, get_or, length}
use Rattle.text.specs.Utf8.{Decoded, Scalar, bytes_of, decode, ill_formed, tail, well_formed, within}
unfoldable pub use Rattle.text.specs.Utf8.{run_of}
use Rattle.text.specs.declared.utf8.Sequence.{Sequence}
pub mod Laws
pub mod FirstSequence

-- ---- bytes below 80

-- how many bytes below 80 stand first
unfoldable pub ascii_length : List ℕ → ℕ
ascii_length [] = 0
ascii_length (b ∷ s) = cond (ltb b 0x80) (suc (ascii_length s)) 0

-- four of them stand at a place
abbrev pub ascii_four : List ℕ → ℕ → Bool
ascii_four s p = leb 4 (length s - p) && (ltb (get_or s p 0) 0x80 && (ltb (get_or s (p + 1) 0) 0x80 && (ltb (get_or s (p + 2) 0) 0x80 && ltb (get_or s (p + 3) 0) 0x80)))

-- ---- decoding

abbrev pub sequence_of : ℕ → ℕ → Sequence
sequence_of v n = record { code = v; len = n }

-- the first sequence: a scalar and the number of its bytes; a damaged byte has none, and counts as no bytes
unfoldable pub sequence_or_zero : List Decoded → Sequence
sequence_or_zero [] = sequence_of 0 0
sequence_or_zero (well_formed c ∷ ds) = sequence_of c.code (length c.bytes)
sequence_or_zero (ill_formed b ∷ ds) = sequence_of 0 0

-- none where it has no bytes
unfoldable pub given : Sequence → Option Sequence
given u = cond (eqb u.len 0) None (Some u)

unfoldable pub first_sequence : List Decoded → Option Sequence
unfolding given sequence_or_zero
first_sequence ds = given (sequence_or_zero ds)

-- a continuation byte
abbrev pub is_tail : ℕ → Bool
is_tail b = within tail b

-- the scalars of two, three and four bytes, of which those between the first and the last continue a sequence: none of more bytes than
-- need be, no surrogate, nothing above 10FFFF
abbrev pub two_bytes : ℕ → ℕ → Option ℕ
two_bytes a b = cond (leb 0xC2 a) (Some (a % 32 * 64 + b % 64)) None

abbrev pub three_bytes : ℕ → ℕ → ℕ → Option ℕ
three_bytes a b c =
    let x : ℕ = (a % 16 * 64 + b % 64) * 64 + c % 64 in
    cond (leb 0x800 x && (ltb x 0xD800 || ltb 0xDFFF x)) (Some x) None

abbrev pub four_bytes : ℕ → ℕ → ℕ → ℕ → Option ℕ
four_bytes a b c d =
    let x : ℕ = ((a % 8 * 64 + b % 64) * 64 + c % 64) * 64 + d % 64 in
    cond ((leb a 0xF4 && is_tail d) && (leb 0x10000 x && leb x 0x10FFFF)) (Some x) None

-- the sequence of n bytes for a scalar
unfoldable pub sequence_for : Option ℕ → ℕ → Option Sequence
sequence_for None n = None
sequence_for (Some x) n = Some (sequence_of x n)

-- the number of a text's bytes
unfoldable pub size : List Scalar → ℕ
size [] = 0
size (c ∷ s) = length c.bytes + size s

-- the text is valid from its start to its end
abbrev pub whole : List ℕ → Type 0
whole t = bytes_of (run_of (decode t)) ≡ t
