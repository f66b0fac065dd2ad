-- The bytes of a sequence: a first one, and continuation bytes; and going back to the first.
-- ---- the bytes of a sequence: a first one, and continuation bytes
use Prim.Native.Nat.{◌+◌, ◌-◌, ◌<◌, ◌≤◌, suc, zero, ℕ}
use native.Mathlib.Omega.{arith}
use mathlib.Core.Bool.{Bool, false, true}
use mathlib.Core.List.{List, [], ◌∷◌}
use mathlib.Core.Logic.{◌≢◌}
use mathlib.Core.Path.{◌∙◌, ◌≡◌, refl, sym}
use lib.Dec.{leb, leb→le}
use lib.ListN.{get_or, length}
use borrow.Author.Tests.{le-leb}
use Rattle.text.specs.Backward.{back}
use Rattle.text.specs.Utf8.Code.{is_tail}
use Rattle.text.specs.Tests.{and_T, cases, true_T}
use Rattle.text.specs.Utf8.{sequence}
use Rattle.text.specs.Utf8.Laws.{continuation_bad, sequence_le}
use Rattle.text.specs.Utf8.Ascii.{sequence_tails}

pub seq_tails : (s : List ℕ) (i n : ℕ) → sequence s ≡ n → suc i < n → is_tail (get_or s (suc i) 0) ≡ true
seq_tails s i n e h = let t = sequence_tails s i n e h in rw (le-leb 0x80 (get_or s (suc i) 0) t.0, le-leb (get_or s (suc i) 0) 0xBF t.1) refl

pub seq_lead : (s : List ℕ) (n : ℕ) → sequence s ≡ suc n → is_tail (get_or s 0 0) ≡ false
seq_lead [] n e = let h : sequence [] ≤ 0 = sequence_le [] in absurd (omega arith)
seq_lead (b ∷ s) n e =
    cases (is_tail b)
    (λ t.
    let w = and_T (leb 0x80 b) (leb b 0xBF) (true_T t) in
    let z : sequence (b ∷ s) ≡ 0 = continuation_bad b s (leb→le _ _ w.0) (leb→le _ _ w.1) in
    absurd (omega arith))
    (λ f. f)

-- ---- going back to the last byte that is no continuation byte

pub back_le : (s : List ℕ) (q : ℕ) → back s q ≤ q
unfolding back
back_le s zero = omega arith
back_le s (suc q) = cases (is_tail (get_or s q 0)) (λ e. rw e (omega (arith, back_le s q))) (λ e. rw e (omega arith))

pub back_lt : (s : List ℕ) (q : ℕ) → 0 < q → back s q < q
unfolding back
back_lt s zero h = absurd (omega arith)
back_lt s (suc q) h = cases (is_tail (get_or s q 0)) (λ e. rw e (omega (arith, back_le s q))) (λ e. rw e (omega arith))

pub back_tail : (s : List ℕ) (q j b : ℕ) → 0 < q → j ≡ q - 1 → b ≡ get_or s j 0 → is_tail b ≡ true → back s q ≡ back s j
unfolding back
back_tail s zero j b h e f t = absurd (omega arith)
back_tail s (suc q) j b h e f t = let i : j ≡ q = omega arith in rw (← i, ← f, t) refl

pub back_here : (s : List ℕ) (q j b : ℕ) → 0 < q → j ≡ q - 1 → b ≡ get_or s j 0 → is_tail b ≡ false → j ≡ back s q
unfolding back
back_here s zero j b h e f t = absurd (omega arith)
back_here s (suc q) j b h e f t = let i : j ≡ q = omega arith in rw (← i, ← f, t) refl

pub back_zero : (s : List ℕ) (q : ℕ) → q ≤ 0 → back s q ≡ 0
unfolding back
back_zero s zero h = refl
back_zero s (suc q) h = absurd (omega arith)

pub back_to : (k : ℕ) (t : List ℕ) (m n q : ℕ) → q ≡ k + m + 1 → k < n → is_tail (get_or t m 0) ≡ false → ((i : ℕ) → suc i < n → is_tail (get_or t (m + suc i) 0) ≡ true) → back t q ≡ m
back_to zero t m n q e h l f = sym (back_here t q m (get_or t m 0) (omega arith) (omega arith) refl l)
back_to (suc k) t m n q e h l f =
    back_tail t q (m + suc k) (get_or t (m + suc k) 0) (omega arith) (omega arith) refl (f k h)
    ∙ back_to k t m n (m + suc k) (omega arith) (omega arith) l f

-- a turn of the loop that goes back
module _ (s : List ℕ) (q i b : ℕ) (r : Bool) (same : back s q ≡ back s i) (some : 0 < i) (e : b ≡ get_or s (i - 1) 0) (f : r ≡ is_tail b) where
  pub back_on : r ≡ true → back s q ≡ back s (i - 1)
  back_on z = same ∙ back_tail s i (i - 1) b some refl e (sym f ∙ z)

  pub back_found : r ≡ false → i - 1 ≡ back s q
  back_found z = back_here s i (i - 1) b some refl e (sym f ∙ z) ∙ sym same

pub back_end : (s : List ℕ) (q i : ℕ) → back s q ≡ back s i → i ≤ 0 → 0 ≡ back s q
back_end s q i e h = sym (e ∙ back_zero s i h)

pub back_inside : (s : List ℕ) (q j : ℕ) → q < length s → (q ≢ 0) → j ≡ back s q → j < length s
back_inside s q j h z e = omega (arith, h, e, back_lt s q (omega (arith, z)))

module _ (s : List ℕ) (i j : ℕ) (h : 0 < i) (b : j ≡ back s i) where
  pub back_less : j < i
  back_less = rw b (back_lt s i h)

  pub back_room : i ≤ length s → j < length s
  back_room l = let k : j < i = back_less in omega (arith, l, k)

  pub back_fits : i ≤ length s → j ≤ length s
  back_fits l = let k : j < i = back_less in omega (arith, l, k)

pub back_within : (s : List ℕ) (q j : ℕ) → q < length s → j ≡ back s q → j ≤ length s
back_within s q j h b = let k = back_le s q in omega (arith, h, b, k)
