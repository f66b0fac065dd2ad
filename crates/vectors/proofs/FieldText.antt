-- The loops over the text of a case.
use mathlib.Core.Path.{◌≡◌, refl, sym, ap, ◌∙◌}
use Prim.Native.Nat.{ℕ, suc, ◌+◌, ◌-◌, ◌*◌, ◌/◌, ◌≤◌, ◌<◌}
use native.Mathlib.Numerals.{add-one}
use native.Mathlib.Omega.{arith}
use mathlib.Core.Bool.{true, cond, ◌&&◌}
use mathlib.Core.List.{List, [], ◌∷◌}
use lib.ListN.{length, take, drop, get_or, length-drop, drop_of_length-le}
use lib.Seq.{drop-cons, length-take-le}
use lib.Dec.{eqb, leb}
use borrow.Author.Tests.{eq-eqb, ne_eqb, le-leb, lt-leb, lt-ltb, le-ltb}
use Rattle.io.specs.Counts.{IsPrefixLen}
use Rattle.text.specs.Tests.{cases, in_range_law}
use Rattle.buffer.specs.Sink.{Sink, sink, put, emit}
use Rattle.buffer.specs.Numbers.{smaller_of}
use Rattle.buffer.specs.Numbers.Laws.{smaller_first, smaller_second, smaller_right}
use Rattle.vectors.specs.Fields.{start_of, index_of, field_of, digit_of, with_digit, decimal, listed_from, listed, hex_byte, hex_bytes, clipped, Filled}
use Rattle.vectors.specs.Recorded.{Lent}

at_byte : (s : List ℕ) (i : ℕ) → i < length s → drop i s ≡ get_or s i 0 ∷ drop (i + 1) s
at_byte s i h = drop-cons s i 0 h ∙ ap (λ (n : ℕ). get_or s i 0 ∷ drop n s) (sym (add-one i))

-- ---- a field

start_more : (s : List ℕ) (b n : ℕ) → (n ≡ 0 → ⊥) → start_of (b ∷ s) n ≡ suc (start_of s (cond (eqb b 0x20) (n - 1) n))
unfolding start_of
start_more s b n h = rw (ne_eqb n 0 h)

start_here : (s : List ℕ) → start_of s 0 ≡ 0
unfolding start_of
start_here [] = refl
start_here (b ∷ s) = refl

start_none : (n : ℕ) → start_of [] n ≡ 0
unfolding start_of
start_none n = refl

start_low : (s : List ℕ) (n : ℕ) → start_of s n ≤ length s
unfolding start_of
start_low [] n = omega arith
start_low (b ∷ s) n = cases (eqb n 0) (λ p. rw p (omega arith)) (λ p. rw p (omega (arith, start_low s (cond (eqb b 0x20) (n - 1) n))))

-- i bytes are passed, and so many fields are left to pass
pub record Passing (s : List ℕ) (n i left : ℕ) : Type 0 where
  pub work : i + start_of (drop i s) left ≡ start_of s n
  pub low : i ≤ length s

module _ (s : List ℕ) (n i left : ℕ) (z : Passing s n i left) where
  passing_turn : (next : ℕ) → i < length s → (left ≡ 0 → ⊥) → cond (eqb (get_or s i 0) 0x20) (left - 1) left ≡ next → Passing s n (i + 1) next
  passing_turn next h k e =
      let a : start_of (drop i s) left ≡ suc (start_of (drop (i + 1) s) next) =
      ap (λ (l : List ℕ). start_of l left) (at_byte s i h) ∙ start_more (drop (i + 1) s) (get_or s i 0) left k ∙ ap (λ (m : ℕ). suc (start_of (drop (i + 1) s) m)) e in
      record { work = omega (arith, a, z.work); low = omega arith }

  pub passing_space : (next : ℕ) → i < length s → (left ≡ 0 → ⊥) → get_or s i 0 ≡ 0x20 → next ≡ left - 1 → Passing s n (i + 1) next
  passing_space next h k e q = passing_turn next h k (rw (eq-eqb (get_or s i 0) 0x20 e) (sym q))

  pub passing_other : (next : ℕ) → i < length s → (left ≡ 0 → ⊥) → (get_or s i 0 ≡ 0x20 → ⊥) → next ≡ left → Passing s n (i + 1) next
  passing_other next h k e q = passing_turn next h k (rw (ne_eqb (get_or s i 0) 0x20 e) (sym q))

  pub passing_ends : left ≡ 0 → i ≡ start_of s n
  passing_ends e = omega (arith, z.work, start_here (drop i s), ap (start_of (drop i s)) e)

  pub passing_past : length s ≤ i → i ≡ start_of s n
  passing_past h = omega (arith, z.work, ap (λ (l : List ℕ). start_of l left) (drop_of_length-le s h) ∙ start_none left)

index_more : (b x : ℕ) (s : List ℕ) → (x ≡ b → ⊥) → index_of b (x ∷ s) ≡ suc (index_of b s)
index_more b x s h = rw (ne_eqb x b h) (omega arith)

index_here : (b x : ℕ) (s : List ℕ) → x ≡ b → index_of b (x ∷ s) ≡ 0
index_here b x s h = rw (eq-eqb x b h)

index_none : (b : ℕ) → index_of b [] ≡ 0
index_none b = refl

index_low : (b : ℕ) (s : List ℕ) → index_of b s ≤ length s
index_low b [] = omega arith
index_low b (x ∷ s) = cases (eqb x b) (λ p. rw p (omega arith)) (λ p. rw p (omega (arith, index_low b s)))

-- a search that has come to i
module _ (s : List ℕ) (b i : ℕ) {e : ℕ} (p : i + index_of b (drop i s) ≡ e) where
  pub find_turn : i < length s → (get_or s i 0 ≡ b → ⊥) → i + 1 + index_of b (drop (i + 1) s) ≡ e
  find_turn h k =
      let a : index_of b (drop i s) ≡ suc (index_of b (drop (i + 1) s)) = ap (index_of b) (at_byte s i h) ∙ index_more b (get_or s i 0) (drop (i + 1) s) k in
      omega (arith, a, p)

  pub find_here : i < length s → get_or s i 0 ≡ b → i ≡ e
  find_here h k =
      let a : index_of b (drop i s) ≡ 0 = ap (index_of b) (at_byte s i h) ∙ index_here b (get_or s i 0) (drop (i + 1) s) k in
      omega (arith, a, p)

  pub find_past : length s ≤ i → i ≡ e
  find_past h =
      let a : index_of b (drop i s) ≡ 0 = ap (index_of b) (drop_of_length-le s h) ∙ index_none b in
      omega (arith, a, p)

-- a field lies in the text
module _ (s : List ℕ) (n at end : ℕ) (p : at ≡ start_of s n) (q : end ≡ at + index_of 0x20 (drop at s)) where
  pub field_inside : end ≤ length s
  field_inside = omega (arith, start_low s n, index_low 0x20 (drop at s), length-drop at s)

  pub field_is : take (end - at) (drop at s) ≡ field_of s n
  unfolding field_of
  field_is =
      let m : end - at ≡ index_of 0x20 (drop at s) = omega arith in
      ap (λ (j : ℕ). take j (drop at s)) m ∙ ap (λ (a : ℕ). take (index_of 0x20 (drop a s)) (drop a s)) p

-- ---- numbers

pub digit_low : (b : ℕ) → (leb 0x30 b && leb b 0x39) ≡ true → 0x30 ≤ b
digit_low b p = (in_range_law 0x30 0x39 b p).0

pub letter_low : (b : ℕ) → (leb 0x61 b && leb b 0x66) ≡ true → 0x57 ≤ b
letter_low b p = omega (arith, in_range_law 0x61 0x66 b p)

pub digit_bound : (b : ℕ) → digit_of b ≤ 16
unfolding digit_of
digit_bound b =
    cases (leb 0x30 b && leb b 0x39) (λ p. rw p (omega (arith, in_range_law 0x30 0x39 b p)))
    (λ p. rw p (cases (leb 0x61 b && leb b 0x66) (λ q. rw q (omega (arith, in_range_law 0x61 0x66 b q))) (λ q. rw q (omega arith))))

pub digit_small : (d b : ℕ) → d ≡ digit_of b → d ≤ 16
digit_small d b e = omega (arith, digit_bound b)

module _ (n b d : ℕ) (e : d ≡ digit_of b) where
  pub digit_none : 9 < d → 18446744073709551615 ≡ with_digit n b
  unfolding with_digit
  digit_none h = rw (← e, lt-ltb 9 d h)

  pub digit_fits : d ≤ 9 → n ≤ (18446744073709551615 - d) / 10 → n * 10 + d ≡ with_digit n b
  unfolding with_digit
  digit_fits h k = rw (← e, le-ltb 9 d h, le-leb n ((18446744073709551615 - d) / 10) k)

  pub digit_past : d ≤ 9 → (18446744073709551615 - d) / 10 < n → 18446744073709551615 ≡ with_digit n b
  unfolding with_digit
  digit_past h k = rw (← e, le-ltb 9 d h, lt-leb n ((18446744073709551615 - d) / 10) k)

pub number_turn : (s : List ℕ) (n n' i : ℕ) {e : ℕ} → i < length s → decimal n (drop i s) ≡ e → n' ≡ with_digit n (get_or s i 0) → decimal n' (drop (i + 1) s) ≡ e
unfolding decimal
number_turn s n n' i h p q = rw q (rw (at_byte s i h) at p)

pub number_end : (s field : List ℕ) (n i : ℕ) → s ≡ field → length s ≤ i → decimal n (drop i s) ≡ decimal 0 s → n ≡ decimal 0 field
unfolding decimal
number_end s field n i e h p = (rw (drop_of_length-le s h) at p) ∙ ap (decimal 0) e

-- ---- what fits into lent memory

pub counted : (n : ℕ) (l : List ℕ) → n ≤ length l → IsPrefixLen n l
counted n l h = (h, sym (length-take-le n l h))

pub filled : (l l' xs : List ℕ) (k r : ℕ) → sink l' k ≡ emit (sink l 0) xs → r ≡ smaller_of k (length l') → Filled l l' xs r
filled l l' xs k r e h =
    record { filled = ap (sink l') h ∙ ap clipped e; inside = counted r l' (smaller_right k (length l') r h) }

pub counted_in : (n : ℕ) (l l₀ : List ℕ) → n ≤ length l₀ → length l ≡ length l₀ → IsPrefixLen n l
counted_in n l l₀ h e = counted n l (omega arith)

-- a size of so many bytes or numbers, or of four numbers each
module _ (n m : ℕ) (l : List ℕ) (e : n ≡ m) where
  pub lent_all : n ≤ length l → Lent m l n
  lent_all h = record { exact = sym (smaller_first n (length l) h) ∙ ap (λ (k : ℕ). smaller_of k (length l)) e; inside = counted n l h }

  pub lent_past : length l < n → Lent m l (length l)
  lent_past h = record { exact = sym (smaller_second n (length l) (omega arith)) ∙ ap (λ (k : ℕ). smaller_of k (length l)) e; inside = counted (length l) l (omega arith) }

module _ (n m : ℕ) (l : List ℕ) (e : n ≡ m) where
  pub spans_all : n ≤ length l / 4 → Lent (4 * m) l (4 * n)
  spans_all h = lent_all (4 * n) (4 * m) l (ap (λ (k : ℕ). 4 * k) e) (omega arith)

  pub spans_past : length l / 4 < n → Lent (4 * m) l (length l)
  spans_past h = lent_past (4 * n) (4 * m) l (ap (λ (k : ℕ). 4 * k) e) (omega arith)

-- ---- lists of numbers

pub list_none : (l s : List ℕ) (b : ℕ) → b ≡ get_or s 0 0 → b ≡ 0x2D → Filled l l (listed s) 0
unfolding listed emit
list_none l s b p q =
    let none : listed s ≡ [] = rw (eq-eqb (get_or s 0 0) 0x2D (sym p ∙ q)) in
    record { filled = ap (sink l) (sym (smaller_first 0 (length l) (omega arith))) ∙ ap (λ (xs : List ℕ). clipped (emit (sink l 0) xs)) (sym none); inside = counted 0 l (omega arith) }

list_some : (s : List ℕ) (b : ℕ) → b ≡ get_or s 0 0 → (b ≡ 0x2D → ⊥) → listed_from 0 s ≡ listed s
unfolding listed
list_some s b p q = rw (ne_eqb (get_or s 0 0) 0x2D (λ e. q (p ∙ e)))

pub list_begins : (k : Sink ℕ) (s : List ℕ) (b : ℕ) → b ≡ get_or s 0 0 → (b ≡ 0x2D → ⊥) → emit k (listed_from 0 s) ≡ emit k (listed s)
list_begins k s b p q = ap (emit k) (list_some s b p q)

module _ (s : List ℕ) (k : Sink ℕ) (n i : ℕ) {e : Sink ℕ} (p : emit k (listed_from n (drop i s)) ≡ e) where
  pub list_comma : (k' : Sink ℕ) → i < length s → get_or s i 0 ≡ 0x2C → k' ≡ put k n → emit k' (listed_from 0 (drop (i + 1) s)) ≡ e
  unfolding listed_from emit
  list_comma k' h q r = rw r (rw (at_byte s i h, eq-eqb (get_or s i 0) 0x2C q) at p)

  pub list_digit : (n' : ℕ) → i < length s → (get_or s i 0 ≡ 0x2C → ⊥) → n' ≡ with_digit n (get_or s i 0) → emit k (listed_from n' (drop (i + 1) s)) ≡ e
  unfolding listed_from
  list_digit n' h q r = rw r (rw (at_byte s i h, ne_eqb (get_or s i 0) 0x2C q) at p)

  pub list_end : (k' : Sink ℕ) → length s ≤ i → k' ≡ put k n → k' ≡ e
  unfolding listed_from emit
  list_end k' h r = r ∙ (rw (drop_of_length-le s h) at p)

-- ---- hexadecimal bytes

pair_at_law : (s : List ℕ) (i : ℕ) → i < length s / 2 → drop (2 * i) s ≡ get_or s (2 * i) 0 ∷ get_or s (2 * i + 1) 0 ∷ drop (2 * (i + 1)) s
pair_at_law s i h =
    let m : 2 * i + 1 + 1 ≡ 2 * (i + 1) = omega arith in
    at_byte s (2 * i) (omega arith) ∙ ap (λ (l : List ℕ). get_or s (2 * i) 0 ∷ l) (at_byte s (2 * i + 1) (omega arith) ∙ ap (λ (j : ℕ). get_or s (2 * i + 1) 0 ∷ drop j s) m)

hex_past : (s : List ℕ) → length s ≤ 1 → hex_bytes s ≡ []
unfolding hex_bytes
hex_past [] h = refl
hex_past (b ∷ []) h = refl
hex_past (b ∷ b' ∷ s) h = absurd (omega arith)

module _ (s : List ℕ) (k : Sink ℕ) (i : ℕ) {e : Sink ℕ} (p : emit k (hex_bytes (drop (2 * i) s)) ≡ e) where
  pub hex_turn : (k' : Sink ℕ) (b : ℕ) → i < length s / 2 → b ≡ hex_byte (get_or s (2 * i) 0) (get_or s (2 * i + 1) 0) → k' ≡ put k b → emit k' (hex_bytes (drop (2 * (i + 1)) s)) ≡ e
  unfolding hex_bytes emit
  hex_turn k' b h q r = rw (r, q) (rw (pair_at_law s i h) at p)

  pub hex_end : length s / 2 ≤ i → k ≡ e
  unfolding emit
  hex_end h =
      let few : length (drop (2 * i) s) ≤ 1 = rw (length-drop (2 * i) s) (omega arith) in
      rw (hex_past (drop (2 * i) s) few) at p
