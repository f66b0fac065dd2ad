-- The first sequence of a text: by its length, and of a byte below 80.
use Rattle.std.specs.Prelude.{◌≡◌, refl, ℕ, zero, suc, ◌≤◌, ◌<◌, None, Some, false, List, [], ◌∷◌, length, take, drop, get_or}
use Rattle.std.proofs.Common.{sym, ap, ◌∙◌, arith, drop-cons, length-take-le}
use Rattle.std.proofs.lemmas.Bool.{lt-leb}
use Rattle.text.specs.Utf8.{scalar, value, sequence, decode, decode_from}
use Rattle.text.specs.Utf8.Laws.{decode_bad, decode_good, sequence_le}
use Rattle.text.specs.Utf8.Ascii.{low_sequence}
use Rattle.text.specs.Utf8.Code.{first_sequence, given, sequence_or_zero, is_tail, sequence_of}

pub first_by : (b : ℕ) (s : List ℕ) (n : ℕ) → sequence (b ∷ s) ≡ n → sequence_or_zero (decode (b ∷ s)) ≡ sequence_of (value (take n (b ∷ s))) n
unfolding sequence_or_zero value scalar
first_by b s zero e = rw (decode_bad b s e) refl
first_by b s (suc n) e =
    let room : suc n ≤ length (b ∷ s) = rw e at (sequence_le (b ∷ s)) in
    rw (decode_good b s n e) (ap (sequence_of (value (take (suc n) (b ∷ s)))) (length-take-le (suc n) (b ∷ s) room))

pub ascii_sequence : (s : List ℕ) (p a : ℕ) → p < length s → a ≡ get_or s p 0 → a < 128 → sequence_of a 1 ≡ sequence_or_zero (decode (drop p s))
unfolding value
ascii_sequence s p a h e l =
    sym (ap (λ (x : List ℕ). sequence_or_zero (decode x)) (drop-cons s p 0 h ∙ ap (λ (x : ℕ). x ∷ drop (suc p) s) (sym e)) ∙ first_by a (drop (suc p) s) 1 (low_sequence a (drop (suc p) s) l))

pub ascii_first : (s : List ℕ) (p a : ℕ) → p < length s → a ≡ get_or s p 0 → a ≤ 0x7F → sequence_of a 1 ≡ sequence_or_zero (decode (drop p s))
ascii_first s p a h e l = ascii_sequence s p a h e (omega arith)

-- no bytes begin with a sequence
pub no_sequence : (s : List ℕ) → length s ≡ 0 → sequence_of 0 0 ≡ sequence_or_zero (decode s)
unfolding sequence_or_zero decode decode_from
no_sequence [] h = refl
no_sequence (b ∷ s) h = absurd (omega arith)

pub ascii_some : (s : List ℕ) (p a : ℕ) → p < length s → a ≡ get_or s p 0 → a ≤ 0x7F → Some (sequence_of a 1) ≡ first_sequence (decode (drop p s))
unfolding first_sequence given
ascii_some s p a h e l = rw (← ascii_first s p a h e l) refl

pub none_first : (s : List ℕ) → length s ≡ 0 → None ≡ first_sequence (decode s)
unfolding first_sequence given
none_first s h = rw (← no_sequence s h) refl

pub low_tail : (b : ℕ) → b < 128 → is_tail b ≡ false
low_tail b h = rw (lt-leb 0x80 b h) refl
