-- Loops that change each element of a list in turn.
use Rattle.std.proofs.Math.Nat.{mod-eq_of_lt}
use Rattle.std.specs.Prelude.{◌≡◌, ℕ, zero, suc, ◌+◌, ◌-◌, ◌*◌, ◌/◌, ◌%◌, ◌^◌, ◌<◌, ◌≤◌, Bool, true, false, cond, ◌||◌, List, [], ◌∷◌, ◌++◌, map, length, take, drop, ◌==◌, nat_le, slice_index, slice_index_or, slice_set}
use Rattle.std.proofs.Math.Path.{refl, sym, ap}
use Rattle.std.proofs.Common.{◌∙◌, pow-suc, arith, drop_of_length-le, length-set, drop-cons}
use Rattle.std.proofs.Math.Nat.{pow-le-pow_right}
use Rattle.std.proofs.Math.Numerals.{add-one}
use borrow.Author.Tests.{lt-ltb, le-ltb, le-leb, lt-leb}
use Rattle.unicode_io.specs.Cells.{bit_of, is_taken, taken_in, filled, fill, taken, Filled, class_of, width_of, kind_of}

-- the first i changed
unfoldable pub changed : (ℕ → ℕ) → ℕ → List ℕ → List ℕ
changed f zero l = l
changed f (suc i) [] = []
changed f (suc i) (x ∷ l) = f x ∷ changed f i l

pub changed_none : (f : ℕ → ℕ) (l : List ℕ) → l ≡ changed f 0 l
unfolding changed
changed_none f l = refl

length_changed : (f : ℕ → ℕ) (i : ℕ) (l : List ℕ) → length (changed f i l) ≡ length l
unfolding changed
length_changed f zero l = refl
length_changed f (suc i) [] = refl
length_changed f (suc i) (x ∷ l) = ap suc (length_changed f i l)

at_changed : (f : ℕ → ℕ) (i : ℕ) (l : List ℕ) → slice_index (changed f i l) i ≡ slice_index l i
unfolding changed
at_changed f zero l = refl
at_changed f (suc i) [] = refl
at_changed f (suc i) (x ∷ l) = at_changed f i l

set_changed : (f : ℕ → ℕ) (i : ℕ) (l : List ℕ) → i < length l → slice_set (changed f i l) i (f (slice_index l i)) ≡ changed f (suc i) l
unfolding changed
set_changed f zero [] h = absurd (omega arith)
set_changed f zero (x ∷ l) h = refl
set_changed f (suc i) [] h = absurd (omega arith)
set_changed f (suc i) (x ∷ l) h = ap (λ (m : List ℕ). f x ∷ m) (set_changed f i l (omega arith))

all_changed : (f : ℕ → ℕ) (i : ℕ) (l : List ℕ) → length l ≤ i → changed f i l ≡ map f l
unfolding changed
all_changed f zero [] h = refl
all_changed f zero (x ∷ l) h = absurd (omega arith)
all_changed f (suc i) [] h = refl
all_changed f (suc i) (x ∷ l) h = ap (λ (m : List ℕ). f x ∷ m) (all_changed f i l (omega arith))

module _ (f : ℕ → ℕ) (l₀ l : List ℕ) (i : ℕ) (e : l ≡ changed f i l₀) where
  -- what stands at the place is still as it was
  pub change_reads : slice_index_or l i 0 ≡ slice_index l₀ i
  change_reads = rw e (at_changed f i l₀)

  pub change_turn : (v : ℕ) → i < length l₀ → v ≡ f (slice_index l i) → slice_set l i v ≡ changed f (i + 1) l₀
  change_turn v h p = rw (p, change_reads, e, add-one) (set_changed f i l₀ h)

  -- where an element stays as it is
  pub change_end : length l₀ ≤ i → l ≡ map f l₀
  change_end h = e ∙ all_changed f i l₀ h

pub record Changing (f : ℕ → ℕ) (l₀ l : List ℕ) (i : ℕ) : Type 0 where
  pub cells : l ≡ changed f i l₀
  pub many : length l ≡ length l₀

pub changing_begins : (f : ℕ → ℕ) (l₀ : List ℕ) → Changing f l₀ l₀ 0
changing_begins f l₀ = record { cells = changed_none f l₀; many = refl }

module _ (f : ℕ → ℕ) (l₀ l : List ℕ) (i : ℕ) (p : Changing f l₀ l i) where
  pub changing_turn : (v : ℕ) → i < length l → v ≡ f (slice_index l i) → Changing f l₀ (slice_set l i v) (i + 1)
  changing_turn v h r = record { cells = change_turn f l₀ l i p.cells v (omega (arith, p.many)) r; many = length-set l i v ∙ p.many }

  pub changing_ends : length l ≤ i → l ≡ map f l₀
  changing_ends h = change_end f l₀ l i p.cells (omega (arith, p.many))

-- ---- whether any is taken

or_assoc : (a b c : Bool) → (a || b) || c ≡ a || (b || c)
or_assoc true b c = refl
or_assoc false b c = refl

or_false : (a : Bool) → a || false ≡ a
or_false true = refl
or_false false = refl

module _ (bit : ℕ) (l₀ : List ℕ) (i : ℕ) (t : Bool) (e : t || taken_in bit (drop i l₀) ≡ taken_in bit l₀) where
  pub taken_turn : (l : List ℕ) (u : Bool) → i < length l₀ → slice_index l i ≡ slice_index l₀ i → u ≡ is_taken bit (slice_index l i) → t || u || taken_in bit (drop (i + 1) l₀) ≡ taken_in bit l₀
  unfolding taken_in
  taken_turn l u h r p = rw (p, r, add-one, or_assoc) (rw (drop-cons l₀ i 0 h) at e)

  pub taken_end : length l₀ ≤ i → t ≡ taken_in bit l₀
  unfolding taken_in
  taken_end h = sym (or_false t) ∙ (rw (drop_of_length-le l₀ h) at e)

-- ---- cells filled one by one

pub record Filling (bit weight : ℕ) (l₀ l : List ℕ) (t : Bool) (i : ℕ) : Type 0 where
  pub cells : l ≡ changed (filled bit weight) i l₀
  pub any : t || taken_in bit (drop i l₀) ≡ taken_in bit l₀
  pub many : length l ≡ length l₀

pub filling_begins : (bit weight : ℕ) (l₀ : List ℕ) → Filling bit weight l₀ l₀ false 0
filling_begins bit weight l₀ = record { cells = changed_none (filled bit weight) l₀; any = refl; many = refl }

module _ (bit weight : ℕ) (l₀ l : List ℕ) (t : Bool) (i : ℕ) (p : Filling bit weight l₀ l t i) where
  pub filling_turn : (u : Bool) (v : ℕ) → i < length l → u ≡ is_taken bit (slice_index l i) → v ≡ filled bit weight (slice_index l i) → Filling bit weight l₀ (slice_set l i v) (t || u) (i + 1)
  filling_turn u v h q r =
      let f : ℕ → ℕ = filled bit weight in
      let k : i < length l₀ = omega (arith, p.many) in
      record { cells = change_turn f l₀ l i p.cells v k r; any = taken_turn bit l₀ i t p.any l u k (change_reads f l₀ l i p.cells) q; many = length-set l i v ∙ p.many }

  pub filling_ends : length l ≤ i → Filled (map (filled bit weight) l₀) (taken_in bit l₀) l t
  filling_ends h =
      let k : length l₀ ≤ i = omega (arith, p.many) in
      record { cells = change_end (filled bit weight) l₀ l i p.cells k; any = taken_end bit l₀ i t p.any k }

-- ---- bits

pub bit_turn : (bit i : ℕ) → bit ≡ bit_of i → bit * 2 ≡ bit_of (i + 1)
bit_turn bit i e = rw (e, add-one, pow-suc) (omega arith)

pub bit_small : (bit i n : ℕ) → bit ≡ bit_of i → i < n → n ≤ 20 → bit ≤ 134217728
bit_small bit i n e h k = let p : 2 ^ i ≤ 2 ^ 19 = pow-le-pow_right {n = 2} (omega arith) {i = i} {j = 19} (omega arith) in omega arith

pub bit_end : (bit i n : ℕ) → bit ≡ bit_of i → i ≤ n → n ≤ i → bit ≡ bit_of n
bit_end bit i n e h k = let q : i ≡ n = omega arith in rw q at e

pub bit_fits : (n : ℕ) → n ≤ 20 → 256 * 2 ^ n % 2 ^ 32 ≡ bit_of n
bit_fits n h = mod-eq_of_lt (let p : 2 ^ n ≤ 2 ^ 20 = pow-le-pow_right {n = 2} (omega arith) {i = n} {j = 20} h in omega arith)

-- ---- kinds

pub class_small : (c : ℕ) → class_of c ≤ 16
unfolding class_of
class_small c = by_cases (c % 16 == 0) (c / 32 % 2 == 1) (nat_le (c % 16) 11)
  where
    by_cases : (s t u : Bool) → cond s (cond t 12 11) (cond u (c % 16 - 1) (c % 16 + 1)) ≤ 16
    by_cases true true u = omega arith
    by_cases true false u = omega arith
    by_cases false t true = omega arith
    by_cases false t false = omega arith

pub width_small : (c : ℕ) → width_of c ≤ 2
unfolding width_of
width_small c = by_cases (nat_le (class_of c) 4 || (class_of c == 6 || class_of c == 7)) (c / 16 % 2 == 1)
  where
    by_cases : (s t : Bool) → cond s 0 (cond t 2 1) ≤ 2
    by_cases true t = omega arith
    by_cases false true = omega arith
    by_cases false false = omega arith

pub width_is : (c k z : ℕ) → k ≡ class_of c → z ≡ cond (nat_le k 4 || (k == 6 || k == 7)) 0 (cond (c / 16 % 2 == 1) 2 1) → z ≡ width_of c
unfolding width_of
width_is c k z e p = rw (← e) p

pub kind_is : (c k w : ℕ) → k ≡ class_of c → w ≡ width_of c → c / 64 % 4 * 64 + k * 4 + w ≡ kind_of c
unfolding kind_of
kind_is c k w e p = rw (e, p)

-- ---- a range of cells

module _ (bit weight low high : ℕ) (cells : List ℕ) where
  pub fill_none : high < low → Filled (fill bit weight low high cells) (taken bit low high cells) cells false
  unfolding fill taken
  fill_none h = rw (lt-ltb high low h) (record { cells = refl; any = refl })

  pub fill_past : low ≤ high → length cells ≤ high → Filled (fill bit weight low high cells) (taken bit low high cells) cells false
  unfolding fill taken
  fill_past h k = rw (le-ltb high low h, le-leb (length cells) high k) (record { cells = refl; any = refl })

  pub fill_part : (new : List ℕ) (r : Bool) → low ≤ high → high < length cells
      → Filled (map (filled bit weight) (take (high + 1 - low) (drop low cells))) (taken_in bit (take (high + 1 - low) (drop low cells))) new r
      → Filled (fill bit weight low high cells) (taken bit low high cells) (take low cells ++ (new ++ drop (high + 1 - low) (drop low cells))) r
  unfolding fill taken
  fill_part new r h k p = rw (le-ltb high low h, lt-leb (length cells) high k) (record { cells = ap (λ (l : List ℕ). take low cells ++ (l ++ drop (high + 1 - low) (drop low cells))) p.cells; any = p.any })
