-- The sequence at a place, by its four bytes.
use Prim.Native.Nat.{◌+◌, ◌<◌, ◌≤◌, suc, zero, zero-le, ℕ}
use native.Mathlib.Nat.{add_assoc, add-zero}
use native.Mathlib.Omega.{arith}
use mathlib.Core.Bool.{Bool, ◌&&◌, and-true, cond, true}
use mathlib.Core.List.{List, [], ◌∷◌}
use mathlib.Core.Logic.{◌≢◌}
use mathlib.Core.Path.{◌∙◌, ◌≡◌, ap, refl, sym}
use lib.Dec.{leb}
use lib.ListN.{drop, get_or, length, length-drop, take}
use lib.Seq.{drop-drop, get_or-drop, length-take-le}
use borrow.Author.Tests.{le-leb}
use Rattle.text.specs.Utf8.Code.{sequence_or_zero, run_of, sequence_of, size}
use Rattle.text.specs.Utf8.Code.FirstSequence.{first_by}
use Rattle.text.specs.Utf8.Code.Laws.{none_at, none_past}
use Rattle.text.specs.Utf8.{Scalar, decode, fits, length_in, scalar, sequence, table, value}
use Rattle.text.specs.Utf8.Laws.{decode_bad, decode_good, sequence_le}
use Rattle.text.specs.declared.utf8.Sequence.{Sequence}

abbrev in_r : ℕ → ℕ → ℕ → Bool
in_r lo hi x = leb lo x && leb x hi

pub zero_leb : (x : ℕ) → leb 0 x ≡ true
zero_leb x = le-leb 0 x zero-le

-- the table as a chain of tests
unfoldable pub chain : ℕ → ℕ → ℕ → ℕ → ℕ
chain a b c d =
    cond (leb a 0x7F) 1
    (cond (in_r 0xC2 0xDF a && in_r 0x80 0xBF b) 2
    (cond (in_r 0xE0 0xE0 a && (in_r 0xA0 0xBF b && in_r 0x80 0xBF c)) 3
    (cond (in_r 0xE1 0xEC a && (in_r 0x80 0xBF b && in_r 0x80 0xBF c)) 3
    (cond (in_r 0xED 0xED a && (in_r 0x80 0x9F b && in_r 0x80 0xBF c)) 3
    (cond (in_r 0xEE 0xEF a && (in_r 0x80 0xBF b && in_r 0x80 0xBF c)) 3
    (cond (in_r 0xF0 0xF0 a && (in_r 0x90 0xBF b && (in_r 0x80 0xBF c && in_r 0x80 0xBF d))) 4
    (cond (in_r 0xF1 0xF3 a && (in_r 0x80 0xBF b && (in_r 0x80 0xBF c && in_r 0x80 0xBF d))) 4
    (cond (in_r 0xF4 0xF4 a && (in_r 0x80 0x8F b && (in_r 0x80 0xBF c && in_r 0x80 0xBF d))) 4
    0))))))))

pub table_chain : (a b c d : ℕ) → sequence (a ∷ b ∷ c ∷ d ∷ []) ≡ chain a b c d
unfolding sequence length_in fits table chain
table_chain a b c d = simp (and-true, zero_leb)

pub by_chain : (a b c d r : ℕ) → r ≡ chain a b c d → r ≡ sequence (a ∷ b ∷ c ∷ d ∷ [])
by_chain a b c d r e = e ∙ sym (table_chain a b c d)

-- bytes past the end count as 0, which continues nothing
sequence_pad : (a : ℕ) (s : List ℕ) → sequence (a ∷ s) ≡ sequence (a ∷ get_or s 0 0 ∷ get_or s 1 0 ∷ get_or s 2 0 ∷ [])
unfolding sequence length_in fits table
sequence_pad a [] = refl
sequence_pad a (b ∷ []) = refl
sequence_pad a (b ∷ c ∷ []) = refl
sequence_pad a (b ∷ c ∷ d ∷ s) = refl

-- of any bytes, by the first four
take_pad : (s : List ℕ) (n : ℕ) → n ≤ length s → n ≤ 3 → take n s ≡ take n (get_or s 0 0 ∷ get_or s 1 0 ∷ get_or s 2 0 ∷ [])
take_pad s zero h k = refl
take_pad [] (suc n) h k = absurd (omega arith)
take_pad (b ∷ s) (suc zero) h k = refl
take_pad (b ∷ []) (suc (suc n)) h k = absurd (omega arith)
take_pad (b ∷ c ∷ s) (suc (suc zero)) h k = refl
take_pad (b ∷ c ∷ []) (suc (suc (suc n))) h k = absurd (omega arith)
take_pad (b ∷ c ∷ d ∷ s) (suc (suc (suc zero))) h k = refl
take_pad (b ∷ c ∷ d ∷ s) (suc (suc (suc (suc n)))) h k = absurd (omega arith)

pad : List ℕ → List ℕ
pad s = get_or s 0 0 ∷ get_or s 1 0 ∷ get_or s 2 0 ∷ get_or s 3 0 ∷ []

first_pad : (s : List ℕ) → 1 ≤ length s → (n v : ℕ) → n ≡ sequence (pad s) → v ≡ value (take n (pad s)) → sequence_of v n ≡ sequence_or_zero (decode s)
unfolding pad
first_pad [] h n v e f = absurd (omega arith)
first_pad (b ∷ s) h n v e f =
    let q : sequence (b ∷ s) ≡ n = sequence_pad b s ∙ sym e in
    let l : n ≤ length (b ∷ s) = rw q at (sequence_le (b ∷ s)) in
    let k : n ≤ 4 = rw (← e) at (sequence_le (pad (b ∷ s))) in
    let w : take n (b ∷ s) ≡ take n (pad (b ∷ s)) = cut b s n l k in
    ap (λ (x : ℕ). sequence_of x n) (f ∙ ap value (sym w)) ∙ sym (first_by b s n q)
  where
    cut : (b : ℕ) (s : List ℕ) (n : ℕ) → n ≤ suc (length s) → n ≤ 4 → take n (b ∷ s) ≡ take n (b ∷ get_or s 0 0 ∷ get_or s 1 0 ∷ get_or s 2 0 ∷ [])
    cut b s zero l k = refl
    cut b s (suc n) l k = ap (λ (t : List ℕ). b ∷ t) (take_pad s n (omega arith) (omega arith))

-- what is read at a place is the first sequence there
pub decode_at : (s : List ℕ) (p a b c d n v : ℕ) → p < length s → a ≡ get_or s p 0 → b ≡ get_or s (p + 1) 0 → c ≡ get_or s (p + 2) 0 → d ≡ get_or s (p + 3) 0
    → n ≡ sequence (a ∷ b ∷ c ∷ d ∷ []) → v ≡ value (take n (a ∷ b ∷ c ∷ d ∷ [])) → sequence_of v n ≡ sequence_or_zero (decode (drop p s))
unfolding pad
decode_at s p a b c d n v h ea eb ec ed en ev =
    let ga : get_or (drop p s) 0 0 ≡ a = get_or-drop p s 0 0 ∙ ap (λ (i : ℕ). get_or s i 0) (add-zero p) ∙ sym ea in
    let gb : get_or (drop p s) 1 0 ≡ b = get_or-drop p s 1 0 ∙ sym eb in
    let gc : get_or (drop p s) 2 0 ≡ c = get_or-drop p s 2 0 ∙ sym ec in
    let gd : get_or (drop p s) 3 0 ≡ d = get_or-drop p s 3 0 ∙ sym ed in
    first_pad (drop p s) (rw (length-drop p s) (omega arith)) n v (rw (ga, gb, gc, gd) en) (rw (ga, gb, gc, gd) ev)

-- ---- the run from a place, one scalar after the other

pub run_none : (b : ℕ) (s : List ℕ) → sequence (b ∷ s) ≡ 0 → run_of (decode (b ∷ s)) ≡ []
unfolding run_of
run_none b s q = rw (decode_bad b s q)

pub run_more : (b : ℕ) (s : List ℕ) (n : ℕ) → sequence (b ∷ s) ≡ suc n
    → run_of (decode (b ∷ s)) ≡ record { code = value (take (suc n) (b ∷ s)); bytes = take (suc n) (b ∷ s) } ∷ run_of (decode (drop (suc n) (b ∷ s)))
unfolding run_of scalar
run_more b s n q = rw (decode_good b s n q)

abbrev pub scalar_at : ℕ → ℕ → ℕ → List ℕ → Scalar
scalar_at p v n s = record { code = v; bytes = take n (drop p s) }

decode_some : (s : List ℕ) → 1 ≤ length s → (u : Sequence) → u ≡ sequence_or_zero (decode s) → 1 ≤ u.len
    → (run_of (decode s) ≡ record { code = u.code; bytes = take u.len s } ∷ run_of (decode (drop u.len s))) × (u.len ≤ length s)
decode_some [] h u e z = absurd (omega arith)
decode_some (b ∷ s) h u e z = go (sequence (b ∷ s)) refl
  where
    go : (n : ℕ) → sequence (b ∷ s) ≡ n → (run_of (decode (b ∷ s)) ≡ record { code = u.code; bytes = take u.len (b ∷ s) } ∷ run_of (decode (drop u.len (b ∷ s)))) × (u.len ≤ length (b ∷ s))
    go zero q = let w : u.len ≡ 0 = ap (λ (x : Sequence). x.len) (e ∙ first_by b s zero q) in absurd (omega arith)
    go (suc n) q =
        let f : u ≡ sequence_of (value (take (suc n) (b ∷ s))) (suc n) = e ∙ first_by b s (suc n) q in
        let l : suc n ≤ length (b ∷ s) = rw q at (sequence_le (b ∷ s)) in
        rw f (run_more b s n q, l)

module _ (s : List ℕ) (p : ℕ) (u : Sequence) (here : p < length s) (read : u ≡ sequence_or_zero (decode (drop p s))) where
  pub run_good : (u.len ≢ 0) → run_of (decode (drop p s)) ≡ scalar_at p u.code u.len s ∷ run_of (decode (drop (p + u.len) s))
  run_good z = rw (drop-drop u.len p s) at (decode_some (drop p s) (rw (length-drop p s) (omega arith)) u read (omega arith)).0

  pub run_room : (u.len ≢ 0) → p + u.len ≤ length s
  run_room z = let w = (decode_some (drop p s) (rw (length-drop p s) (omega arith)) u read (omega arith)).1 in omega (arith, rw (length-drop p s) at w)

  pub run_size : (u.len ≢ 0) → length (take u.len (drop p s)) ≡ u.len
  run_size z = length-take-le u.len (drop p s) (decode_some (drop p s) (rw (length-drop p s) (omega arith)) u read (omega arith)).1

-- ---- a loop over the run: a turn, and the ends

module _ (s : List ℕ) (p : ℕ) (u : Sequence) (here : p < length s) (read : u ≡ sequence_or_zero (decode (drop p s)))
    (total : ℕ) (same : total ≡ p + size (run_of (decode (drop p s)))) where
  pub size_stop : u.len ≡ 0 → p ≡ total
  unfolding size
  size_stop z = sym (rw (none_at s p u here read z, add-zero) at same)

  pub size_on : (u.len ≢ 0) → total ≡ p + u.len + size (run_of (decode (drop (p + u.len) s)))
  unfolding size
  size_on z = rw (run_good s p u here read z, run_size s p u here read z, ← add_assoc) at same

pub size_end : (s : List ℕ) (p total : ℕ) → length s ≤ p → total ≡ p + size (run_of (decode (drop p s))) → p ≡ total
unfolding size
size_end s p total h same = sym (rw (none_past s p h, add-zero) at same)
