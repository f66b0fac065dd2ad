-- A cell holds what the entries say of its scalar: below 256 the values of the names, above a bit for each property that it has.
use Rattle.std.specs.Prelude.{◌≡◌, ℕ, zero, suc, ◌+◌, ◌-◌, ◌*◌, ◌/◌, ◌%◌, ◌^◌, ◌<◌, ◌≤◌, Bool, true, false, cond, ◌&&◌, ◌||◌, List, [], ◌∷◌, ◌==◌, ◌≢◌, nat_eq, nat_le, nat_lt}
use Rattle.std.proofs.Math.Path.{refl}
use Rattle.std.proofs.Common.{sym, ap, ◌∙◌, arith, eq-eqb, ne_eqb, eqb-true, le-ltb, leb-true}
use Rattle.std.proofs.Math.Nat.{div-div-eq-div-mul, mod-eq_of_lt}
use Rattle.std.proofs.lemmas.Bool.{eqb-false}
use Rattle.unicode_io.specs.Names.{property_of, value_of}
use Rattle.unicode_io.specs.Cells.{bit_of, is_taken, filled}
use Rattle.unicode_io.specs.Reading.{weight_of}
use Rattle.unicode_io.specs.Reading.Laws.{property_small, value_small}
use Rattle.unicode_io.specs.Entries.{is_entry, says, name_at}
use Rattle.unicode_io.specs.Entries.Laws.{bit_at, bit_set, bit_others, bit_within}
use Rattle.unicode_io.specs.Grammar.{Entry}

unfoldable pub covered : ℕ → ℕ → List Entry → ℕ → Bool
covered file p [] x = false
covered file p (e ∷ es) x = says file p x e || covered file p es x

-- the property whose names have values
abbrev pub valued : ℕ → ℕ
valued file = cond (nat_lt file 2) 0 (cond (file == 2) 6 20)

pub record Holds (file kept : ℕ) (es : List Entry) (x c : ℕ) : Type 0 where
  pub low : c % 256 ≡ kept + value_of file (name_at file (valued file) es x)
  pub bits : (p : ℕ) → is_taken (bit_of p) c ≡ covered file p es x
  pub small : c < 536870912

-- ---- values

-- by the file's number
by_file : (P : ℕ → Type 0) → P 0 → P 1 → P 2 → ((n : ℕ) → P (suc (suc (suc n)))) → (file : ℕ) → P file
by_file P a b c d zero = a
by_file P a b c d (suc zero) = b
by_file P a b c d (suc (suc zero)) = c
by_file P a b c d (suc (suc (suc n))) = d n

value_none : (file : ℕ) → value_of file 0 ≡ 0
value_none = by_file (λ file. value_of file 0 ≡ 0) refl refl refl (λ n. rw (ne_eqb (suc (suc (suc n))) 0 (λ e. omega arith), ne_eqb (suc (suc (suc n))) 1 (λ e. omega arith), ne_eqb (suc (suc (suc n))) 2 (λ e. omega arith)) refl)

emoji_other : (name : ℕ) → (property_of 2 name ≢ 6) → value_of 2 name ≡ 0
emoji_other name n = by_case (name == 6) refl
  where
    by_case : (t : Bool) → (name == 6) ≡ t → ◌≡◌ {A = ℕ} (cond t 32 0) 0
    by_case true e = let q : name ≡ 6 = eqb-true name 6 e in absurd (n (rw q refl))
    by_case false e = refl

derived_other : (name : ℕ) → (cond (nat_lt name 20) name 20 ≢ 20) → cond (nat_le 20 name) (64 * (name - 19)) 0 ≡ 0
derived_other name n = by_case (nat_le 20 name) refl
  where
    by_case : (t : Bool) → nat_le 20 name ≡ t → cond t (64 * (name - 19)) 0 ≡ 0
    by_case true e = absurd (n (rw (le-ltb name 20 (leb-true 20 name e)) refl))
    by_case false e = refl

-- a name of another property has no value
value_other : (file name : ℕ) → (property_of file name ≢ valued file) → value_of file name ≡ 0
value_other = by_file (λ file. (name : ℕ) → (property_of file name ≢ valued file) → value_of file name ≡ 0)
    (λ name n. absurd (n refl)) (λ name n. absurd (n refl)) emoji_other
    (λ k name n. let a = ne_eqb (suc (suc (suc k))) 0 (λ e. omega arith) in let b = ne_eqb (suc (suc (suc k))) 1 (λ e. omega arith) in let c = ne_eqb (suc (suc (suc k))) 2 (λ e. omega arith) in
    let d = le-ltb (suc (suc (suc k))) 2 (omega arith) in
    rw (a, b, c) (derived_other name (λ z. n (rw (d, c) z))))

-- ---- bits

taken_is : (q c : ℕ) → c / bit_of q % 2 ≡ bit_at q (c / 256)
taken_is q c = ap (λ (d : ℕ). d % 2) (sym (div-div-eq-div-mul c 256 (2 ^ q)))

free_bit : (p c : ℕ) → is_taken (bit_of p) c ≡ false → bit_at p (c / 256) ≡ 0
free_bit p c e = let n = eqb-false (c / bit_of p % 2) 1 e in let t = taken_is p c in below (bit_at p (c / 256)) (omega arith) (λ z. n (t ∙ z))
  where
    below : (m : ℕ) → m < 2 → (m ≢ 1) → m ≡ 0
    below zero h n = refl
    below (suc zero) h n = absurd (n refl)
    below (suc (suc m)) h n = absurd (omega arith)

module _ (file x : ℕ) (e : Entry) (es : List Entry) where
  name_here : (p : ℕ) → says file p x e ≡ true → name_at file p (e ∷ es) x ≡ e.name
  unfolding name_at
  name_here p h = rw h refl

  name_past : (p : ℕ) → says file p x e ≡ false → name_at file p (e ∷ es) x ≡ name_at file p es x
  unfolding name_at
  name_past p h = rw h refl

  covered_here : (p : ℕ) → says file p x e ≡ true → covered file p (e ∷ es) x ≡ true
  unfolding covered
  covered_here p h = rw h refl

  covered_past : (p : ℕ) → says file p x e ≡ false → covered file p (e ∷ es) x ≡ covered file p es x
  unfolding covered
  covered_past p h = rw h refl

name_uncovered : (file p : ℕ) (es : List Entry) (x : ℕ) → covered file p es x ≡ false → name_at file p es x ≡ 0
unfolding name_at covered
name_uncovered file p [] x h = refl
name_uncovered file p (e ∷ es) x h = by_case (says file p x e) h (name_uncovered file p es x)
  where
    by_case : (t : Bool) → t || covered file p es x ≡ false → (covered file p es x ≡ false → name_at file p es x ≡ 0) → cond t e.name (name_at file p es x) ≡ 0
    by_case true q hyp = cc
    by_case false q hyp = hyp q

-- ---- one entry more

abbrev pub in_range : Entry → ℕ → Bool
in_range e x = nat_le e.low x && nat_le x e.high

add_parts : (c k v : ℕ) → c % 256 + v < 256 → ((c + (256 * k + v)) / 256 ≡ c / 256 + k) × ((c + (256 * k + v)) % 256 ≡ c % 256 + v)
add_parts c k v h = (omega arith, omega arith)

and_last : (t : Bool) → t && true ≡ t
and_last true = refl
and_last false = refl

-- an entry of property p and value v that has the scalar
module _ (file kept : ℕ) (room : kept ≤ 63) (es : List Entry) (x c : ℕ) (h : Holds file kept es x c) (e : Entry) (p v : ℕ) (pe : property_of file e.name ≡ p) (ve : value_of file e.name ≡ v)
    (p_small : p ≤ 20) (v_small : v ≤ 192) (v_other : (p ≢ valued file) → v ≡ 0) (says_is : (q : ℕ) → says file q x e ≡ (p == q)) (free : is_taken (bit_of p) c ≡ false) where
  lows : (w : ℕ) → w ≡ valued file → (t : Bool) → (p == w) ≡ t → (c % 256 + v ≡ kept + value_of file (name_at file w (e ∷ es) x)) × (c % 256 + v < 256)
  lows w we true q =
      let same : p ≡ w = eqb-true p w q in
      let none : covered file w es x ≡ false = sym (h.bits w) ∙ ap (λ (m : ℕ). is_taken (bit_of m) c) (sym same) ∙ free in
      let old : c % 256 ≡ kept = h.low ∙ ap (λ (m : ℕ). kept + value_of file (name_at file m es x)) (sym we) ∙ ap (λ (m : ℕ). kept + value_of file m) (name_uncovered file w es x none) ∙ ap (λ (m : ℕ). kept + m) (value_none file) ∙ (omega arith) in
      let now : value_of file (name_at file w (e ∷ es) x) ≡ v = ap (value_of file) (name_here file x e es w (says_is w ∙ q)) ∙ ve in
      (rw (now, old) refl, omega (arith, old))
  lows w we false q =
      let zero_value : v ≡ 0 = v_other (λ z. eqb-false p w q (z ∙ sym we)) in
      let past : name_at file w (e ∷ es) x ≡ name_at file w es x = name_past file x e es w (says_is w ∙ q) in
      let old : c % 256 ≡ kept + value_of file (name_at file w (e ∷ es) x) = h.low ∙ ap (λ (m : ℕ). kept + value_of file (name_at file m es x)) (sym we) ∙ ap (λ (m : ℕ). kept + value_of file m) (sym past) in
      ((omega (arith, zero_value, old)), omega (arith, zero_value))

  abbrev next : ℕ
  next = c + (bit_of p + v)

  fits : c % 256 + v < 256
  fits = (lows (valued file) refl (p == valued file) refl).1

  upper : next / 256 ≡ c / 256 + 2 ^ p
  upper = (add_parts c (2 ^ p) v fits).0

  bit_free : bit_at p (c / 256) ≡ 0
  bit_free = free_bit p c free

  next_bits : (q : ℕ) (t : Bool) → (p == q) ≡ t → is_taken (bit_of q) next ≡ covered file q (e ∷ es) x
  next_bits q true k =
      let one : next / bit_of q % 2 ≡ 1 = taken_is q next ∙ ap (bit_at q) upper ∙ ap (λ (m : ℕ). bit_at m (c / 256 + 2 ^ p)) (sym (eqb-true p q k)) ∙ bit_set p (c / 256) bit_free in
      eq-eqb (next / bit_of q % 2) 1 one ∙ sym (covered_here file x e es q (says_is q ∙ k))
  next_bits q false k =
      let same : next / bit_of q % 2 ≡ c / bit_of q % 2 = taken_is q next ∙ ap (bit_at q) upper ∙ bit_others p q (c / 256) bit_free (eqb-false p q k) ∙ sym (taken_is q c) in
      ap (λ (m : ℕ). nat_eq m 1) same ∙ h.bits q ∙ sym (covered_past file x e es q (says_is q ∙ k))

  next_small : next < 536870912
  next_small =
      let a : c / 256 < 2 ^ 21 = omega (arith, h.small) in
      let b : c / 256 + 2 ^ p < 2 ^ 21 = bit_within p 21 (c / 256) (omega arith) a bit_free in
      omega (arith, upper)

  holds_next : Holds file kept (e ∷ es) x next
  holds_next = record {
    low = (add_parts c (2 ^ p) v fits).1 ∙ (lows (valued file) refl (p == valued file) refl).0;
    bits = λ q. next_bits q (p == q) refl;
    small = next_small;
  }

  holds_filled : Holds file kept (e ∷ es) x (filled (bit_of p) (bit_of p + v) c)
  unfolding filled
  holds_filled = rw (free, mod-eq_of_lt {n = next} {m = 4294967296} (omega (arith, next_small))) holds_next

module _ (file kept : ℕ) (room : kept ≤ 63) (es : List Entry) (x c : ℕ) (h : Holds file kept es x c) (e : Entry) where
  pub held_past : is_entry e && in_range e x ≡ false → Holds file kept (e ∷ es) x c
  held_past n = record {
    low = h.low ∙ ap (λ (m : ℕ). kept + value_of file m) (sym (name_past file x e es (valued file) (silent (valued file))));
    bits = λ p. h.bits p ∙ sym (covered_past file x e es p (silent p));
    small = h.small;
  }
    where
      and_past : (a b d : Bool) → a && d ≡ false → a && (b && d) ≡ false
      and_past true true d q = q
      and_past true false d q = refl
      and_past false b d q = refl

      silent : (p : ℕ) → says file p x e ≡ false
      silent p = and_past (is_entry e) (property_of file e.name == p) (in_range e x) n

  module _ (few : e.name ≤ 22) (is : is_entry e ≡ true) (within : in_range e x ≡ true) (free : is_taken (bit_of (property_of file e.name)) c ≡ false) where
    pub held_here : Holds file kept (e ∷ es) x (filled (bit_of (property_of file e.name)) (weight_of file e.name) c)
    held_here = holds_filled file kept room es x c h e (property_of file e.name) (value_of file e.name) refl refl (property_small file e.name) (value_small file e.name few)
        (value_other file e.name) (λ q. rw (is, within) (and_last (property_of file e.name == q))) free
