-- What an entry fills, cell by cell, and whether it meets one before it.
use Rattle.std.specs.Prelude.{◌≡◌, ℕ, zero, suc, ◌+◌, ◌-◌, ◌<◌, ◌≤◌, Bool, true, false, ◌&&◌, ◌||◌, ◌⊎◌, List, [], ◌∷◌, ◌++◌, map, length, take, drop, ◌==◌, ◌≢◌, nat_le, slice_index}
use Rattle.std.proofs.Math.Path.{refl}
use Rattle.std.proofs.Common.{sym, ap, ◌∙◌, inl, inr, ⊎_elim, arith}
use borrow.Author.Tests.{eq-eqb, eqb-true, le-ltb, le-leb, lt-leb, leb-true}
use Rattle.unicode_io.specs.Tests.{never, and_left, and_right}
use Rattle.unicode_io.specs.Names.{property_of}
use Rattle.unicode_io.specs.Cells.{is_taken, filled, taken_in, fill, taken}
use Rattle.unicode_io.specs.Entries.{is_entry, says, meet, meets_any}
use Rattle.unicode_io.specs.Entries.Cell.{covered}
use Rattle.unicode_io.specs.Grammar.{Entry}

-- ---- n cells from the a-th on

abbrev partly : (ℕ → ℕ) → ℕ → ℕ → List ℕ → List ℕ
partly f a n l = take a l ++ (map f (take n (drop a l)) ++ drop n (drop a l))

front_in : (f : ℕ → ℕ) (n : ℕ) (l : List ℕ) (i : ℕ) → i < n → i < length l → slice_index (map f (take n l) ++ drop n l) i ≡ f (slice_index l i)
front_in f zero l i h k = absurd (omega arith)
front_in f (suc n) [] i h k = absurd (omega arith)
front_in f (suc n) (x ∷ l) zero h k = refl
front_in f (suc n) (x ∷ l) (suc i) h k = front_in f n l i (omega arith) (omega arith)

front_past : (f : ℕ → ℕ) (n : ℕ) (l : List ℕ) (i : ℕ) → n ≤ i → slice_index (map f (take n l) ++ drop n l) i ≡ slice_index l i
front_past f zero l i h = refl
front_past f (suc n) [] i h = refl
front_past f (suc n) (x ∷ l) zero h = absurd (omega arith)
front_past f (suc n) (x ∷ l) (suc i) h = front_past f n l i (omega arith)

nothing_in : (f : ℕ → ℕ) (n i : ℕ) → slice_index (map f (take n []) ++ drop n []) i ≡ 0
nothing_in f zero i = refl
nothing_in f (suc n) i = refl

partly_in : (f : ℕ → ℕ) (a n : ℕ) (l : List ℕ) (i : ℕ) → a ≤ i → i < a + n → i < length l → slice_index (partly f a n l) i ≡ f (slice_index l i)
partly_in f zero n l i b h k = front_in f n l i (omega arith) k
partly_in f (suc a) n [] i b h k = absurd (omega arith)
partly_in f (suc a) n (x ∷ l) zero b h k = absurd (omega arith)
partly_in f (suc a) n (x ∷ l) (suc i) b h k = partly_in f a n l i (omega arith) (omega arith) (omega arith)

partly_out : (f : ℕ → ℕ) (a n : ℕ) (l : List ℕ) (i : ℕ) → (i < a) ⊎ (a + n ≤ i) → slice_index (partly f a n l) i ≡ slice_index l i
partly_out f zero n l i h = ⊎_elim (λ (p : i < 0). absurd (omega arith)) (λ (p : 0 + n ≤ i). front_past f n l i (omega arith)) h
partly_out f (suc a) n [] i h = nothing_in f n i
partly_out f (suc a) n (x ∷ l) zero h = refl
partly_out f (suc a) n (x ∷ l) (suc i) h = partly_out f a n l i (⊎_elim (λ (p : suc i < suc a). inl (omega arith)) (λ (p : suc a + n ≤ suc i). inr (omega arith)) h)

front_length : (f : ℕ → ℕ) (n : ℕ) (l : List ℕ) → length (map f (take n l) ++ drop n l) ≡ length l
front_length f zero l = refl
front_length f (suc n) [] = refl
front_length f (suc n) (x ∷ l) = ap suc (front_length f n l)

partly_length : (f : ℕ → ℕ) (a n : ℕ) (l : List ℕ) → length (partly f a n l) ≡ length l
partly_length f zero n l = front_length f n l
partly_length f (suc a) n [] = front_length f n []
partly_length f (suc a) n (x ∷ l) = ap suc (partly_length f a n l)

-- ---- is any taken?

front_none : (bit n : ℕ) (l : List ℕ) (i : ℕ) → taken_in bit (take n l) ≡ false → i < n → i < length l → is_taken bit (slice_index l i) ≡ false
unfolding taken_in
front_none bit zero l i e h k = absurd (omega arith)
front_none bit (suc n) [] i e h k = absurd (omega arith)
front_none bit (suc n) (x ∷ l) zero e h k = or_left (is_taken bit x) (taken_in bit (take n l)) e
  where
    or_left : (s t : Bool) → s || t ≡ false → s ≡ false
    or_left true t q = q
    or_left false t q = refl
front_none bit (suc n) (x ∷ l) (suc i) e h k = front_none bit n l i (or_right (is_taken bit x) (taken_in bit (take n l)) e) (omega arith) (omega arith)
  where
    or_right : (s t : Bool) → s || t ≡ false → t ≡ false
    or_right true t q = cc
    or_right false t q = q

part_none : (bit a n : ℕ) (l : List ℕ) (i : ℕ) → taken_in bit (take n (drop a l)) ≡ false → a ≤ i → i < a + n → i < length l → is_taken bit (slice_index l i) ≡ false
part_none bit zero n l i e b h k = front_none bit n l i e (omega arith) k
part_none bit (suc a) n [] i e b h k = absurd (omega arith)
part_none bit (suc a) n (x ∷ l) zero e b h k = absurd (omega arith)
part_none bit (suc a) n (x ∷ l) (suc i) e b h k = part_none bit a n l i e (omega arith) (omega arith) (omega arith)

pub record Some (bit a e : ℕ) (l : List ℕ) : Type 0 where
  pub at : ℕ
  pub from : a ≤ at
  pub to : at < e
  pub is : is_taken bit (slice_index l at) ≡ true

front_some : (bit n : ℕ) (l : List ℕ) → taken_in bit (take n l) ≡ true → Some bit 0 n l
unfolding taken_in
front_some bit zero l e = absurd (let z : ◌≡◌ {A = Bool} false true = e in let y : ◌≡◌ {A = ℕ} 0 1 = cc in omega arith)
front_some bit (suc n) [] e = absurd (let z : ◌≡◌ {A = Bool} false true = e in let y : ◌≡◌ {A = ℕ} 0 1 = cc in omega arith)
front_some bit (suc n) (x ∷ l) e = by_case (is_taken bit x) refl e (front_some bit n l)
  where
    by_case : (t : Bool) → is_taken bit x ≡ t → t || taken_in bit (take n l) ≡ true → (taken_in bit (take n l) ≡ true → Some bit 0 n l) → Some bit 0 (suc n) (x ∷ l)
    by_case true p q hyp = record { at = 0; from = omega arith; to = omega arith; is = p }
    by_case false p q hyp = let s = hyp q in record { at = suc s.at; from = omega arith; to = omega (arith, s.to); is = s.is }

none_taken : (bit n : ℕ) → taken_in bit (take n []) ≢ true
unfolding taken_in
none_taken bit zero e = never e
none_taken bit (suc n) e = never e

part_some : (bit a n : ℕ) (l : List ℕ) → taken_in bit (take n (drop a l)) ≡ true → Some bit a (a + n) l
part_some bit zero n l e = let s = front_some bit n l e in record { at = s.at; from = s.from; to = omega (arith, s.to); is = s.is }
part_some bit (suc a) n [] e = absurd (none_taken bit n e)
part_some bit (suc a) n (x ∷ l) e = let s = part_some bit a n l e in record { at = suc s.at; from = omega (arith, s.from); to = omega (arith, s.to); is = s.is }

-- ---- a range of cells

module _ (bit weight low high : ℕ) (cells : List ℕ) (rising : low ≤ high) (room : high < length cells) where
  fill_is : fill bit weight low high cells ≡ partly (filled bit weight) low (high + 1 - low) cells
  unfolding fill
  fill_is = rw (le-ltb high low rising, lt-leb (length cells) high room) refl

  taken_is : taken bit low high cells ≡ taken_in bit (take (high + 1 - low) (drop low cells))
  unfolding taken
  taken_is = rw (le-ltb high low rising, lt-leb (length cells) high room) refl

  pub fill_in : (x : ℕ) → low ≤ x → x ≤ high → slice_index (fill bit weight low high cells) x ≡ filled bit weight (slice_index cells x)
  fill_in x h k = ap (λ (l : List ℕ). slice_index l x) fill_is ∙ partly_in (filled bit weight) low (high + 1 - low) cells x h (omega arith) (omega arith)

  pub fill_out : (x : ℕ) → (x < low) ⊎ (high < x) → slice_index (fill bit weight low high cells) x ≡ slice_index cells x
  fill_out x h = ap (λ (l : List ℕ). slice_index l x) fill_is ∙ partly_out (filled bit weight) low (high + 1 - low) cells x (⊎_elim (λ (p : x < low). inl p) (λ (p : high < x). inr (omega arith)) h)

  pub taken_none : taken bit low high cells ≡ false → (x : ℕ) → low ≤ x → x ≤ high → is_taken bit (slice_index cells x) ≡ false
  taken_none e x h k = part_none bit low (high + 1 - low) cells x (sym taken_is ∙ e) h (omega arith) (omega arith)

  pub taken_some : taken bit low high cells ≡ true → Some bit low (high + 1) cells
  taken_some e = let s = part_some bit low (high + 1 - low) cells (sym taken_is ∙ e) in record { at = s.at; from = s.from; to = omega (arith, s.to); is = s.is }

  pub fill_length : length (fill bit weight low high cells) ≡ length cells
  fill_length = ap (length {A = ℕ}) fill_is ∙ partly_length (filled bit weight) low (high + 1 - low) cells

-- ---- entries that meet

pub record Found (file p : ℕ) (e : Entry) (es : List Entry) : Type 0 where
  pub at : ℕ
  pub from : e.low ≤ at
  pub to : at ≤ e.high
  pub is : covered file p es at ≡ true

abbrev pub Rising : Entry → Type 0
Rising e = is_entry e ≡ true → e.low ≤ e.high

module _ (file : ℕ) (e : Entry) (is : is_entry e ≡ true) where
  -- where both have a scalar
  meet_at : (f : Entry) (x : ℕ) → e.low ≤ x → x ≤ e.high → says file (property_of file e.name) x f ≡ true → meet file e f ≡ true
  meet_at f x h k s =
      let entry_f : is_entry f ≡ true = and_left (is_entry f) _ s in
      let rest = and_right (is_entry f) (property_of file f.name == property_of file e.name && (nat_le f.low x && nat_le x f.high)) s in
      let same : property_of file f.name ≡ property_of file e.name = eqb-true _ _ (and_left (property_of file f.name == property_of file e.name) (nat_le f.low x && nat_le x f.high) rest) in
      let both = and_right (property_of file f.name == property_of file e.name) (nat_le f.low x && nat_le x f.high) rest in
      let a : f.low ≤ x = leb-true _ _ (and_left (nat_le f.low x) (nat_le x f.high) both) in
      let b : x ≤ f.high = leb-true _ _ (and_right (nat_le f.low x) (nat_le x f.high) both) in
      rw (is, entry_f, eq-eqb (property_of file e.name) (property_of file f.name) (sym same), le-leb e.low f.high (omega arith), le-leb f.low e.high (omega arith)) refl

  pub meets_at : (es : List Entry) (x : ℕ) → e.low ≤ x → x ≤ e.high → covered file (property_of file e.name) es x ≡ true → meets_any file e es ≡ true
  unfolding covered meets_any
  meets_at [] x h k s = s
  meets_at (f ∷ es) x h k s = by_case (says file (property_of file e.name) x f) refl s (meets_at es x h k)
    where
      or_true : (t : Bool) → t || true ≡ true
      or_true true = refl
      or_true false = refl

      by_case : (t : Bool) → says file (property_of file e.name) x f ≡ t → t || covered file (property_of file e.name) es x ≡ true → (covered file (property_of file e.name) es x ≡ true → meets_any file e es ≡ true) → meet file e f || meets_any file e es ≡ true
      by_case true q r hyp = rw (meet_at f x h k q) refl
      by_case false q r hyp = rw (hyp r) (or_true (meet file e f))

  -- one that meets has a scalar in common
  pub met_at : (f : Entry) → e.low ≤ e.high → (is_entry f ≡ true → f.low ≤ f.high) → meet file e f ≡ true → (x : ℕ) → (e.low ≤ x) × (x ≤ e.high) → (f.low ≤ x) × (x ≤ f.high) → says file (property_of file e.name) x f ≡ true
  met_at f re rf m x h k =
      let entries = and_left (is_entry e && is_entry f) _ m in
      let rest = and_right (is_entry e && is_entry f) (property_of file e.name == property_of file f.name && (nat_le e.low f.high && nat_le f.low e.high)) m in
      let same : property_of file e.name ≡ property_of file f.name = eqb-true _ _ (and_left (property_of file e.name == property_of file f.name) (nat_le e.low f.high && nat_le f.low e.high) rest) in
      rw (and_right (is_entry e) (is_entry f) entries, eq-eqb (property_of file f.name) (property_of file e.name) (sym same), le-leb f.low x k.0, le-leb x f.high k.1) refl
