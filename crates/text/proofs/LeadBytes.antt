-- Sequences by their first byte: their lengths and values.
use Prim.Native.Nat.{◌%◌, ◌*◌, ◌+◌, ◌<◌, ◌≤◌, ℕ}
use native.Mathlib.Omega.{arith}
use mathlib.Core.Bool.{Bool, ◌&&◌, ◌||◌, and-false, and-true, cond, false, true}
use mathlib.Core.List.{List, [], ◌∷◌}
use mathlib.Core.Logic.{◌≢◌}
use mathlib.Core.Path.{◌∙◌, ◌≡◌, ap, refl, sym}
use lib.Dec.{T, leb, leb→le, ltb, ltb→lt}
use lib.ListN.{drop, get_or, length, take}
use borrow.Author.Tests.{le-leb, le-ltb, leb-false, leb-true, lt-leb, lt-ltb, ne_eqb}
use Rattle.std.specs.Prelude.{Option, None, Some}
use Rattle.text.specs.Utf8.Code.{first_sequence, given, sequence_or_zero, four_bytes, is_tail, sequence_for, sequence_of, three_bytes, two_bytes}
use Rattle.text.specs.Tests.{and_T, cases, iff, is_true, or_T}
use Rattle.text.specs.Utf8.{Decoded, decode, more, to, value, within}
use Rattle.text.specs.declared.utf8.Sequence.{Sequence}
use Rattle.text.proofs.SequenceBytes.{by_chain, chain, decode_at}
use Rattle.text.specs.Utf8.Code.FirstSequence.{ascii_first}

-- ---- the table by the first byte

two_chain : (a b c d : ℕ) → 0x7F < a → a ≤ 0xDF → chain a b c d ≡ cond (leb 0xC2 a && is_tail b) 2 0
unfolding chain
two_chain a b c d lo hi =
    rw (
      lt-leb a 0x7F (omega arith),
      le-leb a 0xDF (omega arith),
      lt-leb 0xE0 a (omega arith),
      lt-leb 0xE1 a (omega arith),
      lt-leb 0xED a (omega arith),
      lt-leb 0xEE a (omega arith),
      lt-leb 0xF0 a (omega arith),
      lt-leb 0xF1 a (omega arith),
      lt-leb 0xF4 a (omega arith),
    ) (cases (leb 0xC2 a) (λ e. rw e refl) (λ e. rw e refl))

-- a row of it: its range of the second byte b, the tests t of the bytes behind, the test v of the value
row : (b lo hi : ℕ) (t v : Bool) → 0x80 ≤ lo → hi ≤ 0xBF → (0x80 ≤ b → b ≤ 0xBF → T v → (lo ≤ b) × (b ≤ hi)) → (lo ≤ b → b ≤ hi → T v) → (within (to lo hi) b && t) ≡ ((is_tail b && t) && v)
row b lo hi t v l h f g =
    iff (within (to lo hi) b && t) ((is_tail b && t) && v)
    (λ x.
    let p = and_T (within (to lo hi) b) t x in
    let q = and_T (leb lo b) (leb b hi) p.0 in
    let m : lo ≤ b = leb→le _ _ q.0 in
    let n : b ≤ hi = leb→le _ _ q.1 in
    rw (le-leb 0x80 b (omega arith), le-leb b 0xBF (omega arith), is_true t p.1, is_true v (g m n)) tt)
    (λ x.
    let p = and_T (is_tail b && t) v x in
    let q = and_T (is_tail b) t p.0 in
    let r = and_T (leb 0x80 b) (leb b 0xBF) q.0 in
    let w = f (leb→le _ _ r.0) (leb→le _ _ r.1) p.1 in
    rw (le-leb lo b w.0, le-leb b hi w.1, is_true t q.1) tt)

-- at least 800 and no surrogate
abbrev is_three : ℕ → Bool
is_three x = leb 0x800 x && (ltb x 0xD800 || ltb 0xDFFF x)

below : (x : ℕ) → 0x800 ≤ x → x < 0xD800 → T (is_three x)
below x l h = rw (le-leb 0x800 x l, lt-ltb x 0xD800 h) tt

above : (x : ℕ) → 0xDFFF < x → T (is_three x)
above x l = rw (le-leb 0x800 x (omega arith), le-ltb x 0xD800 (omega arith), lt-ltb 0xDFFF x l) tt

module _ (a b c d : ℕ) where
  abbrev pub x₃ : ℕ
  x₃ = (a % 16 * 64 + b % 64) * 64 + c % 64

  three_low : T (is_three x₃) → 0x800 ≤ x₃
  three_low t = leb→le _ _ (and_T (leb 0x800 x₃) (ltb x₃ 0xD800 || ltb 0xDFFF x₃) t).0

  below_surrogates : a ≡ 0xED → T (is_three x₃) → b ≤ 0xBF → 0x80 ≤ b → b ≤ 0x9F
  below_surrogates i t h l =
      or_T (ltb x₃ 0xD800) (ltb 0xDFFF x₃) (and_T (leb 0x800 x₃) (ltb x₃ 0xD800 || ltb 0xDFFF x₃) t).1
      (λ u. let y : x₃ < 0xD800 = ltb→lt _ _ u in omega arith)
      (λ u. let y : 0xDFFF < x₃ = ltb→lt _ _ u in absurd (omega arith))

  surrogate_row : a ≡ 0xED → (within (to 0x80 0x9F) b && is_tail c) ≡ ((is_tail b && is_tail c) && is_three x₃)
  surrogate_row i = row b 0x80 0x9F (is_tail c) (is_three x₃) (omega arith) (omega arith) (λ l h t. (l, below_surrogates i t h l)) (λ l h. below x₃ (omega arith) (omega arith))

  -- the rows that a first byte E0 to EF leaves
  abbrev three_rows : ℕ
  three_rows =
      cond (within (to 0xE0 0xE0) a && (within (to 0xA0 0xBF) b && is_tail c)) 3
      (cond (within (to 0xE1 0xEC) a && (is_tail b && is_tail c)) 3
      (cond (within (to 0xED 0xED) a && (within (to 0x80 0x9F) b && is_tail c)) 3
      (cond (within (to 0xEE 0xEF) a && (is_tail b && is_tail c)) 3 0)))

  past_two : 0xDF < a → a ≤ 0xEF → chain a b c d ≡ three_rows
  unfolding chain
  past_two lo hi = rw (lt-leb a 0x7F (omega arith), le-leb 0xC2 a (omega arith), lt-leb a 0xDF (omega arith), lt-leb 0xF0 a (omega arith), lt-leb 0xF1 a (omega arith), lt-leb 0xF4 a (omega arith)) refl

  three_rows_law : 0xDF < a → a ≤ 0xEF → three_rows ≡ cond ((is_tail b && is_tail c) && is_three x₃) 3 0
  three_rows_law lo hi =
      cases (leb a 0xE0)
      (λ e.
      let i : a ≡ 0xE0 = let j : a ≤ 0xE0 = leb-true a 0xE0 e in omega arith in
      rw (← row b 0xA0 0xBF (is_tail c) (is_three x₃) (omega arith) (omega arith) (λ l h t. let k = three_low t in (omega arith, h)) (λ l h. below x₃ (omega arith) (omega arith)), i) refl)
      (λ e. let j : 0xE0 < a = leb-false a 0xE0 e in
      cases (leb a 0xEC)
      (λ f.
      let k : a ≤ 0xEC = leb-true a 0xEC f in
      rw (
        ← row b 0x80 0xBF (is_tail c) (is_three x₃) (omega arith) (omega arith) (λ l h t. (l, h)) (λ l h. below x₃ (omega arith) (omega arith)),
        le-leb 0xE0 a (omega arith),
        e,
        le-leb 0xE1 a (omega arith),
        f,
        lt-leb 0xED a (omega arith),
        lt-leb 0xEE a (omega arith),
      ) refl)
      (λ f. let k : 0xEC < a = leb-false a 0xEC f in
      cases (leb a 0xED)
      (λ g.
      let i : a ≡ 0xED = let m : a ≤ 0xED = leb-true a 0xED g in omega arith in
      rw (← surrogate_row i, i) refl)
      (λ g.
      let m : 0xED < a = leb-false a 0xED g in
      rw (
        ← row b 0x80 0xBF (is_tail c) (is_three x₃) (omega arith) (omega arith) (λ l h t. (l, h)) (λ l h. above x₃ (omega arith)),
        le-leb 0xE0 a (omega arith),
        e,
        le-leb 0xE1 a (omega arith),
        f,
        le-leb 0xED a (omega arith),
        g,
        le-leb 0xEE a (omega arith),
        le-leb a 0xEF hi,
      ) refl)))

  three_chain : 0xDF < a → a ≤ 0xEF → chain a b c d ≡ cond ((is_tail b && is_tail c) && is_three x₃) 3 0
  three_chain lo hi = past_two lo hi ∙ three_rows_law lo hi

-- 10000 to 10FFFF
abbrev is_four : ℕ → Bool
is_four x = leb 0x10000 x && leb x 0x10FFFF

inside : (x : ℕ) → 0x10000 ≤ x → x ≤ 0x10FFFF → T (is_four x)
inside x l h = rw (le-leb 0x10000 x l, le-leb x 0x10FFFF h) tt

module _ (a b c d : ℕ) where
  abbrev pub x₄ : ℕ
  x₄ = ((a % 8 * 64 + b % 64) * 64 + c % 64) * 64 + d % 64

  four_bounds : T (is_four x₄) → (0x10000 ≤ x₄) × (x₄ ≤ 0x10FFFF)
  four_bounds t = let p = and_T (leb 0x10000 x₄) (leb x₄ 0x10FFFF) t in (leb→le _ _ p.0, leb→le _ _ p.1)

  -- the rows that a first byte from F0 on leaves
  abbrev four_rows : ℕ
  four_rows =
      cond (within (to 0xF0 0xF0) a && (within (to 0x90 0xBF) b && (is_tail c && is_tail d))) 4
      (cond (within (to 0xF1 0xF3) a && (is_tail b && (is_tail c && is_tail d))) 4
      (cond (within (to 0xF4 0xF4) a && (within (to 0x80 0x8F) b && (is_tail c && is_tail d))) 4 0))

  past_three : 0xEF < a → chain a b c d ≡ four_rows
  unfolding chain
  past_three lo =
      rw (
        lt-leb a 0x7F (omega arith),
        le-leb 0xC2 a (omega arith),
        lt-leb a 0xDF (omega arith),
        le-leb 0xE0 a (omega arith),
        lt-leb a 0xE0 (omega arith),
        le-leb 0xE1 a (omega arith),
        lt-leb a 0xEC (omega arith),
        le-leb 0xED a (omega arith),
        lt-leb a 0xED (omega arith),
        le-leb 0xEE a (omega arith),
        lt-leb a 0xEF lo,
      ) refl

  four_rows_law : 0xEF < a → four_rows ≡ cond ((leb a 0xF4 && (is_tail b && (is_tail c && is_tail d))) && is_four x₄) 4 0
  four_rows_law lo =
      cases (leb a 0xF0)
      (λ e.
      let i : a ≡ 0xF0 = let j : a ≤ 0xF0 = leb-true a 0xF0 e in omega arith in
      rw (le-leb a 0xF4 (omega arith), ← row b 0x90 0xBF (is_tail c && is_tail d) (is_four x₄) (omega arith) (omega arith) (λ l h t. let k = (four_bounds t).0 in (omega arith, h)) (λ l h. inside x₄ (omega arith) (omega arith)), i) refl)
      (λ e. let j : 0xF0 < a = leb-false a 0xF0 e in
      cases (leb a 0xF3)
      (λ f.
      let k : a ≤ 0xF3 = leb-true a 0xF3 f in
      rw (
        le-leb a 0xF4 (omega arith),
        ← row b 0x80 0xBF (is_tail c && is_tail d) (is_four x₄) (omega arith) (omega arith) (λ l h t. (l, h)) (λ l h. inside x₄ (omega arith) (omega arith)),
        le-leb 0xF0 a (omega arith),
        e,
        le-leb 0xF1 a (omega arith),
        f,
        lt-leb 0xF4 a (omega arith),
      ) refl)
      (λ f. let k : 0xF3 < a = leb-false a 0xF3 f in
      cases (leb a 0xF4)
      (λ g.
      let i : a ≡ 0xF4 = let m : a ≤ 0xF4 = leb-true a 0xF4 g in omega arith in
      rw (g, ← row b 0x80 0x8F (is_tail c && is_tail d) (is_four x₄) (omega arith) (omega arith) (λ l h t. let y = (four_bounds t).1 in (l, omega arith)) (λ l h. inside x₄ (omega arith) (omega arith)), i) refl)
      (λ g. rw (le-leb 0xF0 a (omega arith), e, le-leb 0xF1 a (omega arith), f, le-leb 0xF4 a (omega arith), g) refl)))

  four_chain : 0xEF < a → chain a b c d ≡ cond ((leb a 0xF4 && (is_tail b && (is_tail c && is_tail d))) && is_four x₄) 4 0
  four_chain lo = past_three lo ∙ four_rows_law lo

-- ---- what is read at a place

module _ (s : List ℕ) (p a b c : ℕ) (here : p < length s) (ea : a ≡ get_or s p 0) (eb : b ≡ get_or s (p + 1) 0) (ec : c ≡ get_or s (p + 2) 0) where
  by_test : (d n x : ℕ) (t : Bool) → d ≡ get_or s (p + 3) 0 → chain a b c d ≡ cond t n 0 → x ≡ value (take n (a ∷ b ∷ c ∷ d ∷ [])) → cond t (sequence_of x n) (sequence_of 0 0) ≡ sequence_or_zero (decode (drop p s))
  unfolding value
  by_test d n x true ed e f = decode_at s p a b c d n x here ea eb ec ed (by_chain a b c d n (sym e)) f
  by_test d n x false ed e f = decode_at s p a b c d 0 0 here ea eb ec ed (by_chain a b c d 0 (sym e)) refl

  pub two_is : 0x7F < a → a ≤ 0xDF → cond (leb 0xC2 a && is_tail b) (sequence_of (a % 32 * 64 + b % 64) 2) (sequence_of 0 0) ≡ sequence_or_zero (decode (drop p s))
  unfolding value more
  two_is lo hi = by_test (get_or s (p + 3) 0) 2 (a % 32 * 64 + b % 64) (leb 0xC2 a && is_tail b) refl (two_chain a b c (get_or s (p + 3) 0) lo hi) refl

  pub three_is : 0xDF < a → a ≤ 0xEF → cond ((is_tail b && is_tail c) && is_three (x₃ a b c 0)) (sequence_of (x₃ a b c 0) 3) (sequence_of 0 0) ≡ sequence_or_zero (decode (drop p s))
  unfolding value more
  three_is lo hi = by_test (get_or s (p + 3) 0) 3 (x₃ a b c 0) ((is_tail b && is_tail c) && is_three (x₃ a b c 0)) refl (three_chain a b c (get_or s (p + 3) 0) lo hi) refl

  pub four_is : (d : ℕ) → d ≡ get_or s (p + 3) 0 → 0xEF < a → cond ((leb a 0xF4 && (is_tail b && (is_tail c && is_tail d))) && is_four (x₄ a b c d)) (sequence_of (x₄ a b c d) 4) (sequence_of 0 0) ≡ sequence_or_zero (decode (drop p s))
  unfolding value more
  four_is d ed lo = by_test d 4 (x₄ a b c d) ((leb a 0xF4 && (is_tail b && (is_tail c && is_tail d))) && is_four (x₄ a b c d)) ed (four_chain a b c d lo) refl

-- ---- a scalar above FFFF has four bytes

code_of : (t : Bool) (y n : ℕ) (u : Sequence) → cond t (sequence_of y n) (sequence_of 0 0) ≡ u → u.code ≤ y
code_of true y n u e = rw (← e) (omega arith)
code_of false y n u e = rw (← e) (omega arith)

len_of : (t : Bool) (y n : ℕ) (u : Sequence) → cond t (sequence_of y n) (sequence_of 0 0) ≡ u → (u.code ≢ 0) → u.len ≡ n
len_of true y n u e z = rw (← e) refl
len_of false y n u e z = absurd (z (rw (← e) refl))

pub high_len : (s : List ℕ) (p : ℕ) → p < length s → 0x10000 ≤ (sequence_or_zero (decode (drop p s))).code → (sequence_or_zero (decode (drop p s))).len ≡ 4
high_len s p h k =
    let u : Sequence = sequence_or_zero (decode (drop p s)) in
    let a : ℕ = get_or s p 0 in
    let b : ℕ = get_or s (p + 1) 0 in
    let c : ℕ = get_or s (p + 2) 0 in
    cases (leb a 0x7F)
    (λ e. let m : a ≤ 0x7F = leb-true a 0x7F e in
    absurd (omega (arith, k, m, ap (λ (x : Sequence). x.code) (ascii_first s p a h refl m))))
    (λ e. let l : 0x7F < a = leb-false a 0x7F e in
    cases (leb a 0xDF)
    (λ f. absurd (omega (arith, k, code_of (leb 0xC2 a && is_tail b) (a % 32 * 64 + b % 64) 2 u (two_is s p a b c h refl refl refl l (leb-true a 0xDF f)))))
    (λ f. let m : 0xDF < a = leb-false a 0xDF f in
    cases (leb a 0xEF)
    (λ g. absurd (omega (arith, k, code_of ((is_tail b && is_tail c) && is_three (x₃ a b c 0)) (x₃ a b c 0) 3 u (three_is s p a b c h refl refl refl m (leb-true a 0xEF g)))))
    (λ g.
    let d : ℕ = get_or s (p + 3) 0 in
    len_of ((leb a 0xF4 && (is_tail b && (is_tail c && is_tail d))) && is_four (x₄ a b c d)) (x₄ a b c d) 4 u (four_is s p a b c h refl refl refl d refl (leb-false a 0xEF g)) (λ z. omega (arith, k, z)))))

-- ---- by the scalar, where there is one

-- none counts as no bytes
unfoldable pub zero_for : Option ℕ → ℕ → Sequence
zero_for None n = sequence_of 0 0
zero_for (Some x) n = sequence_of x n

chosen : (t : Bool) (y n : ℕ) (x : Option ℕ) → x ≡ cond t (Some y) None → zero_for x n ≡ cond t (sequence_of y n) (sequence_of 0 0)
unfolding zero_for
chosen true y n x e = rw e refl
chosen false y n x e = rw e refl

given_for : (x : Option ℕ) (n : ℕ) → (n ≢ 0) → sequence_for x n ≡ given (zero_for x n)
unfolding zero_for sequence_for given
given_for None n z = refl
given_for (Some x) n z = rw (ne_eqb n 0 z) refl

-- what is read, and is the first sequence
read_is : (ds : List Decoded) (x : Option ℕ) (n : ℕ) (r : Option Sequence) → (n ≢ 0) → r ≡ sequence_for x n → zero_for x n ≡ sequence_or_zero ds → r ≡ first_sequence ds
unfolding first_sequence
read_is ds x n r z e f = e ∙ given_for x n z ∙ ap given f

none_is : (ds : List Decoded) → sequence_of 0 0 ≡ sequence_or_zero ds → None ≡ first_sequence ds
unfolding first_sequence given
none_is ds e = rw (← e) refl

module _ (s : List ℕ) (p a b : ℕ) (here : p < length s) (ea : a ≡ get_or s p 0) (eb : b ≡ get_or s (p + 1) 0) (t : Bool) (et : t ≡ is_tail b) where
  module _ (tt' : t ≡ true) where
    pub two_or_zero : (x : Option ℕ) → x ≡ two_bytes a b → 0x7F < a → a ≤ 0xDF → zero_for x 2 ≡ sequence_or_zero (decode (drop p s))
    two_or_zero x ex lo hi =
        chosen (leb 0xC2 a) (a % 32 * 64 + b % 64) 2 x ex
        ∙ (rw (sym et ∙ tt', and-true (leb 0xC2 a)) at (two_is s p a b (get_or s (p + 2) 0) here ea eb refl lo hi))

    pub two_at : (x : Option ℕ) (r : Option Sequence) → x ≡ two_bytes a b → r ≡ sequence_for x 2 → 0x7F < a → a ≤ 0xDF → r ≡ first_sequence (decode (drop p s))
    two_at x r ex er lo hi = read_is (decode (drop p s)) x 2 r (λ z. omega (arith, z)) er (two_or_zero x ex lo hi)

    module _ (c : ℕ) (ec : c ≡ get_or s (p + 2) 0) (u : Bool) (eu : u ≡ is_tail c) (uu : u ≡ true) where
      pub three_or_zero : (x : Option ℕ) → x ≡ three_bytes a b c → 0xDF < a → a ≤ 0xEF → zero_for x 3 ≡ sequence_or_zero (decode (drop p s))
      three_or_zero x ex lo hi =
          chosen (is_three (x₃ a b c 0)) (x₃ a b c 0) 3 x ex
          ∙ (rw (sym et ∙ tt', sym eu ∙ uu) at (three_is s p a b c here ea eb ec lo hi))

      pub three_at : (x : Option ℕ) (r : Option Sequence) → x ≡ three_bytes a b c → r ≡ sequence_for x 3 → 0xDF < a → a ≤ 0xEF → r ≡ first_sequence (decode (drop p s))
      three_at x r ex er lo hi = read_is (decode (drop p s)) x 3 r (λ z. omega (arith, z)) er (three_or_zero x ex lo hi)

      pub four_or_zero : (d : ℕ) (x : Option ℕ) → d ≡ get_or s (p + 3) 0 → x ≡ four_bytes a b c d → 0xEF < a → zero_for x 4 ≡ sequence_or_zero (decode (drop p s))
      four_or_zero d x ed ex lo =
          chosen ((leb a 0xF4 && is_tail d) && is_four (x₄ a b c d)) (x₄ a b c d) 4 x ex
          ∙ (rw (sym et ∙ tt', sym eu ∙ uu) at (four_is s p a b c here ea eb ec d ed lo))

      pub four_at : (d : ℕ) (x : Option ℕ) (r : Option Sequence) → d ≡ get_or s (p + 3) 0 → x ≡ four_bytes a b c d → r ≡ sequence_for x 4 → 0xEF < a → r ≡ first_sequence (decode (drop p s))
      four_at d x r ed ex er lo = read_is (decode (drop p s)) x 4 r (λ z. omega (arith, z)) er (four_or_zero d x ed ex lo)

    pub no_third : (c : ℕ) (u : Bool) → c ≡ get_or s (p + 2) 0 → u ≡ is_tail c → u ≡ false → 0xDF < a → sequence_of 0 0 ≡ sequence_or_zero (decode (drop p s))
    no_third c u ec eu uf lo =
        cases (leb a 0xEF)
        (λ e. rw (sym et ∙ tt', sym eu ∙ uf) at (three_is s p a b c here ea eb ec lo (leb-true a 0xEF e)))
        (λ e. rw (sym et ∙ tt', sym eu ∙ uf, and-false (leb a 0xF4)) at (four_is s p a b c here ea eb ec (get_or s (p + 3) 0) refl (leb-false a 0xEF e)))

  pub no_second : t ≡ false → 0x7F < a → sequence_of 0 0 ≡ sequence_or_zero (decode (drop p s))
  no_second tf lo =
      cases (leb a 0xDF)
      (λ e. rw (sym et ∙ tf, and-false (leb 0xC2 a)) at (two_is s p a b (get_or s (p + 2) 0) here ea eb refl lo (leb-true a 0xDF e)))
      (λ e. cases (leb a 0xEF)
      (λ f. rw (sym et ∙ tf) at (three_is s p a b (get_or s (p + 2) 0) here ea eb refl (leb-false a 0xDF e) (leb-true a 0xEF f)))
      (λ f. rw (sym et ∙ tf, and-false (leb a 0xF4)) at (four_is s p a b (get_or s (p + 2) 0) here ea eb refl (get_or s (p + 3) 0) refl (leb-false a 0xEF f))))

  pub none_third : t ≡ true → (c : ℕ) (u : Bool) → c ≡ get_or s (p + 2) 0 → u ≡ is_tail c → u ≡ false → 0xDF < a → None ≡ first_sequence (decode (drop p s))
  none_third tt' c u ec eu uf lo = none_is (decode (drop p s)) (no_third tt' c u ec eu uf lo)

  pub none_second : t ≡ false → 0x7F < a → None ≡ first_sequence (decode (drop p s))
  none_second tf lo = none_is (decode (drop p s)) (no_second tf lo)
