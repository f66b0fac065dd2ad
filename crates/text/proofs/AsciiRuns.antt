-- Runs of bytes below 80.
use mathlib.Core.Path.{◌≡◌, refl, sym, ap, ◌∙◌}
use Prim.Native.Nat.{ℕ, suc, ◌+◌, ◌-◌, ◌≤◌, ◌<◌}
use native.Mathlib.Omega.{arith}
use mathlib.Core.Bool.{Bool, true, false, ◌&&◌}
use mathlib.Core.List.{List, [], ◌∷◌}
use mathlib.Core.Logic.{◌≢◌}
use lib.Dec.{leb, ltb, leb→le}
use lib.ListN.{length, drop, get_or, length-drop, drop_of_length-le}
use lib.Seq.{drop-cons, drop-drop, get_or-drop}
use borrow.Author.Tests.{lt-leb, le-leb, ltb-true, ltb-false, lt-ltb, le-ltb}
use Rattle.text.specs.Tests.{cases, and_T, is_true, true_T}
use Rattle.text.specs.Utf8.{decode}
use Rattle.text.specs.Utf8.Ascii.{low_sequence}
use Rattle.std.specs.Prelude.{Option, None, Some}
use Rattle.text.specs.Utf8.Code.{ascii_length, ascii_four, first_sequence, sequence_or_zero, run_of, size}
use Rattle.text.specs.Utf8.Code.Laws.{given_none, given_some}
use Rattle.text.specs.declared.utf8.Sequence.{Sequence}
use Rattle.text.proofs.SequenceBytes.{run_more, run_room, size_end, size_on, size_stop}

-- ---- `is_ascii4`

pub four_short : (s : List ℕ) (p : ℕ) → length s - p < 4 → false ≡ ascii_four s p
four_short s p h = rw (lt-leb 4 (length s - p) h)

pub four_long : (s : List ℕ) (p : ℕ) (r : Bool) → 4 ≤ length s - p
    → r ≡ (ltb (get_or s p 0) 0x80 && (ltb (get_or s (p + 1) 0) 0x80 && (ltb (get_or s (p + 2) 0) 0x80 && ltb (get_or s (p + 3) 0) 0x80))) → r ≡ ascii_four s p
four_long s p r h e = rw (le-leb 4 (length s - p) h) e

-- ---- `ascii_end`

pub ascii_le : (s : List ℕ) → ascii_length s ≤ length s
unfolding ascii_length
ascii_le [] = omega arith
ascii_le (b ∷ s) = cases (ltb b 0x80) (λ e. rw e (omega (arith, ascii_le s))) (λ e. rw e (omega arith))

pub record AsciiLoop (s : List ℕ) (at p : ℕ) : Type 0 where
  pub same : at + ascii_length (drop at s) ≡ p + ascii_length (drop p s)
  pub low : p ≤ length s

pub ascii_begins : (s : List ℕ) (at : ℕ) → at ≤ length s → AsciiLoop s at at
ascii_begins s at h = record { same = refl; low = h }

module _ (s : List ℕ) (at p : ℕ) (w : AsciiLoop s at p) where
  ascii_on : (q : ℕ) → q < length s → ltb (get_or s q 0) 0x80 ≡ true → ascii_length (drop q s) ≡ suc (ascii_length (drop (q + 1) s))
  unfolding ascii_length
  ascii_on q h l = let e : suc q ≡ q + 1 = omega arith in rw (drop-cons s q 0 h, l) (ap (λ (n : ℕ). suc (ascii_length (drop n s))) e)

  pub ascii_more : p < length s → get_or s p 0 < 0x80 → AsciiLoop s at (p + 1)
  ascii_more h l = record { same = omega (arith, w.same, ascii_on p h (lt-ltb (get_or s p 0) 0x80 l)); low = omega arith }

  pub ascii_four_law : (r : Bool) → r ≡ ascii_four s p → r ≡ true → AsciiLoop s at (p + 4)
  ascii_four_law r e t =
      let a = and_T (leb 4 (length s - p)) _ (true_T (sym e ∙ t)) in
      let h : 4 ≤ length s - p = leb→le _ _ a.0 in
      let b = and_T (ltb (get_or s p 0) 0x80) _ a.1 in
      let c = and_T (ltb (get_or s (p + 1) 0) 0x80) _ b.1 in
      let d = and_T (ltb (get_or s (p + 2) 0) 0x80) _ c.1 in
      let f₁ : p + 1 + 1 ≡ p + 2 = omega arith in
      let f₂ : p + 2 + 1 ≡ p + 3 = omega arith in
      let f₃ : p + 3 + 1 ≡ p + 4 = omega arith in
      let g₀ = ascii_on p (omega arith) (is_true _ b.0) in
      let g₁ : ascii_length (drop (p + 1) s) ≡ suc (ascii_length (drop (p + 2) s)) = rw f₁ at (ascii_on (p + 1) (omega arith) (is_true _ c.0)) in
      let g₂ : ascii_length (drop (p + 2) s) ≡ suc (ascii_length (drop (p + 3) s)) = rw f₂ at (ascii_on (p + 2) (omega arith) (is_true _ d.0)) in
      let g₃ : ascii_length (drop (p + 3) s) ≡ suc (ascii_length (drop (p + 4) s)) = rw f₃ at (ascii_on (p + 3) (omega arith) (is_true _ d.1)) in
      record { same = omega (arith, w.same, g₀, g₁, g₂, g₃); low = omega arith }

  pub ascii_stops : p < length s → 0x80 ≤ get_or s p 0 → p ≡ at + ascii_length (drop at s)
  unfolding ascii_length
  ascii_stops h l =
      let e : ascii_length (drop p s) ≡ 0 = rw (drop-cons s p 0 h, le-ltb (get_or s p 0) 0x80 l) in
      omega (arith, w.same, e)

  pub ascii_ends : length s ≤ p → p ≡ at + ascii_length (drop at s)
  unfolding ascii_length
  ascii_ends h =
      let e : ascii_length (drop p s) ≡ 0 = rw (drop_of_length-le s h) in
      omega (arith, w.same, e)

-- ---- `run_end`

run_low : (s : List ℕ) → size (run_of (decode s)) ≡ ascii_length s + size (run_of (decode (drop (ascii_length s) s)))
unfolding ascii_length size run_of decode
run_low [] = refl
run_low (b ∷ s) =
    cases (ltb b 0x80)
    (λ e. rw e (rw (run_more b s 0 (low_sequence b s (ltb-true b 0x80 e))) (omega (arith, run_low s))))
    (λ e. rw e (omega arith))

module _ (s : List ℕ) (p q : ℕ) (h : p ≤ length s) (e : q ≡ p + ascii_length (drop p s)) where
  run_ascii : p + size (run_of (decode (drop p s))) ≡ q + size (run_of (decode (drop q s)))
  run_ascii = rw e (omega (arith, rw (drop-drop (ascii_length (drop p s)) p s) at (run_low (drop p s))))

  ascii_inside : q ≤ length s
  ascii_inside = omega (arith, ascii_le (drop p s), length-drop p s)

-- the byte after those below 80 is none of them
stops_high : (s : List ℕ) → ascii_length s < length s → 0x7F < get_or s (ascii_length s) 0
unfolding ascii_length
stops_high [] h = absurd (omega arith)
stops_high (b ∷ s) h =
    cases (ltb b 0x80)
    (λ e. rw e (stops_high s (let k : suc (ascii_length s) < suc (length s) = rw e at h in omega arith)))
    (λ e. rw e (omega (arith, ltb-false b 0x80 e)))

pub ascii_high : (s : List ℕ) (p q : ℕ) → p ≤ length s → q ≡ p + ascii_length (drop p s) → q < length s → 0x7F < get_or s q 0
ascii_high s p q h e k =
    let l : ascii_length (drop p s) < length (drop p s) = omega (arith, length-drop p s) in
    rw (e, ← get_or-drop p s (ascii_length (drop p s)) 0) (stops_high (drop p s) l)

pub record RunLoop (s : List ℕ) (at p : ℕ) : Type 0 where
  pub same : at + size (run_of (decode (drop at s))) ≡ p + size (run_of (decode (drop p s)))
  pub low : p ≤ length s

pub run_begins : (s : List ℕ) (at : ℕ) → at ≤ length s → RunLoop s at at
run_begins s at h = record { same = refl; low = h }

module _ (s : List ℕ) (at p : ℕ) (w : RunLoop s at p) where
  module _ (q : ℕ) (i : q ≡ p + ascii_length (drop p s)) where
    pub run_low_again : RunLoop s at q
    run_low_again = record { same = w.same ∙ run_ascii s p q w.low i; low = ascii_inside s p q w.low i }

    pub run_low_falls : p < length s → get_or s p 0 < 0x80 → length s - q < length s - p
    unfolding ascii_length
    run_low_falls h b =
        let e : ascii_length (drop p s) ≡ suc (ascii_length (drop (suc p) s)) = rw (drop-cons s p 0 h, lt-ltb (get_or s p 0) 0x80 b) refl in
        omega (arith, e, i)

  pub run_ends : length s ≤ p → p ≡ at + size (run_of (decode (drop at s)))
  run_ends h = size_end s p (at + size (run_of (decode (drop at s)))) h w.same

  module _ (h : p < length s) (r : Option Sequence) (f : r ≡ first_sequence (decode (drop p s))) where
    pub run_stops : r ≡ None → p ≡ at + size (run_of (decode (drop at s)))
    unfolding first_sequence
    run_stops e = size_stop s p (sequence_or_zero (decode (drop p s))) h refl (at + size (run_of (decode (drop at s)))) w.same (given_none (sequence_or_zero (decode (drop p s))) r f e)

    module _ (u : Sequence) (e : r ≡ Some u) where
      read : (u ≡ sequence_or_zero (decode (drop p s))) × (u.len ≢ 0)
      unfolding first_sequence
      read = given_some (sequence_or_zero (decode (drop p s))) u r f e

      pub run_place : p + u.len ≤ length s
      run_place = run_room s p u h read.0 read.1

      pub run_again : RunLoop s at (p + u.len)
      run_again = record { same = size_on s p u h read.0 (at + size (run_of (decode (drop at s)))) w.same read.1; low = run_place }

      pub run_falls : length s - (p + u.len) < length s - p
      run_falls = omega (arith, read.1)
