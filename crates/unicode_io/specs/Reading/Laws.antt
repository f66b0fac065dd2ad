-- What the functions that read leave.
use Rattle.std.specs.Prelude.{◌≡◌, ℕ, ◌+◌, ◌-◌, ◌*◌, ◌^◌, ◌<◌, ◌≤◌, Bool, true, false, cond, ◌&&◌, List, [], ◌∷◌, ◌++◌, map, length, take, drop, ◌==◌, ◌≢◌, nat_le, nat_lt, slice_index}
use Rattle.std.proofs.Math.Path.{refl}
use Rattle.std.proofs.Common.{ap, ◌∙◌, add-one, arith, drop_of_length-le, drop-cons}
use Rattle.std.proofs.Math.Nat.{pow-le-pow_right, one-le-pow}
use borrow.Author.Tests.{ne_eqb, ltb-true}
use Rattle.unicode_io.specs.Names.{name_number, property_of, value_of}
use Rattle.unicode_io.specs.Names.Laws.{name_few}
use Rattle.unicode_io.specs.Grammar.{Entry, entry, other_form, nothing}
use Rattle.unicode_io.specs.Line.{empty, with_byte, entry_of, ranged, is_scalar}
use Rattle.unicode_io.specs.Cells.{bit_of, fill, taken, kept_of, Filled}
use Rattle.unicode_io.specs.Reading.{State, state_of, reading, weight_of, fill_entry, taken_by_entry, with_entry, line_ended, byte_read, bytes_read, file_ended}
use Rattle.unicode_io.specs.declared.line.Number.{Number}
use Rattle.unicode_io.specs.declared.line.Line.{Line}
use Rattle.unicode_io.specs.declared.reading.Reading.{Reading}

-- ---- an entry's bit and weight

pub property_small : (file name : ℕ) → property_of file name ≤ 20
property_small file name = by_cases (nat_lt file 2) (nat_lt name 20) refl
  where
    by_cases : (s t : Bool) → nat_lt name 20 ≡ t → cond s 0 (cond t name 20) ≤ 20
    by_cases true t e = omega arith
    by_cases false true e = omega (arith, ltb-true name 20 e)
    by_cases false false e = omega arith

pub bit_pos : (p : ℕ) → 0 < bit_of p
bit_pos p = let h : 1 ≤ 2 ^ p = one-le-pow p 2 (omega arith) in omega arith

pub bit_most : (p : ℕ) → p ≤ 20 → bit_of p ≤ 268435456
bit_most p k = let h : 2 ^ p ≤ 2 ^ 20 = pow-le-pow_right {n = 2} (omega arith) {i = p} {j = 20} k in omega arith

pub value_small : (file name : ℕ) → name ≤ 22 → value_of file name ≤ 192
value_small file name h = by_cases (file == 0) (file == 1) (file == 2) (nat_le 5 name) (name == 6) (nat_le 20 name)
  where
    by_cases : (s t u v w x : Bool) → cond s name (cond t (cond v 16 0) (cond u (cond w 32 0) (cond x (64 * (name - 19)) 0))) ≤ 192
    by_cases true t u v w x = omega arith
    by_cases false true u true w x = omega arith
    by_cases false true u false w x = omega arith
    by_cases false false true v true x = omega arith
    by_cases false false true v false x = omega arith
    by_cases false false false v w true = omega arith
    by_cases false false false v w false = omega arith

pub weight_fits : (file name p bit v : ℕ) → name ≤ 22 → p ≡ property_of file name → bit ≡ bit_of p → v ≡ value_of file name → bit + v < 4294967296
weight_fits file name p bit v h e f g = let a = property_small file name in let b = bit_most p (omega (arith, a, e)) in let d = value_small file name h in omega arith

pub bit_above : (p bit : ℕ) → bit ≡ bit_of p → 0 < bit
bit_above p bit e = rw e (bit_pos p)

pub entry_filled : (file : ℕ) (e : Entry) (p bit v : ℕ) (cells after : List ℕ) (r : Bool) → p ≡ property_of file e.name → bit ≡ bit_of p → v ≡ value_of file e.name
    → Filled (fill bit (bit + v) e.low e.high cells) (taken bit e.low e.high cells) after r → Filled (fill_entry file e cells) (taken_by_entry file e cells) after r
unfolding fill_entry taken_by_entry
entry_filled file e p bit v cells after r a b d h =
    let q : bit ≡ bit_of (property_of file e.name) = b ∙ ap bit_of a in
    let w : bit + v ≡ weight_of file e.name = rw (q, d) refl in
    record { cells = h.cells ∙ (rw (w, q) refl); any = h.any ∙ (rw q refl) }

ranged_few : (low high : Number) (name : ℕ) → name ≤ 22 → (ranged low high name).name ≤ 22
unfolding ranged
ranged_few low high name h = by_cases (is_scalar low) (high.digits == 0) (is_scalar high) (nat_lt low.value high.value)
  where
    by_cases : (s t u v : Bool) → (cond s (cond t (entry low.value low.value name) (cond u (cond v (entry low.value high.value name) other_form) other_form)) other_form).name ≤ 22
    by_cases true true u v = h
    by_cases true false true true = h
    by_cases true false true false = omega arith
    by_cases true false false v = omega arith
    by_cases false t u v = omega arith

pub entry_few : (file : ℕ) (l : Line) (e : Entry) → e ≡ entry_of file l → e.name ≤ 22
unfolding entry_of
entry_few file l e p = rw p (by_cases (l.stage == 0) (nat_le 8 l.stage && nat_le l.stage 9) (name_number file (take l.count l.name) == 0))
  where
    by_cases : (s t u : Bool) → (cond s nothing (cond t (cond u other_form (ranged l.low l.high (name_number file (take l.count l.name)))) other_form)).name ≤ 22
    by_cases true t u = omega arith
    by_cases false true true = omega arith
    by_cases false true false = ranged_few l.low l.high _ (name_few file (take l.count l.name))
    by_cases false false u = omega arith

-- ---- the end of a line

module _ (file : ℕ) (e : Entry) (r : Reading) (cells : List ℕ) (l : Line) (k : l ≡ empty) where
  pub ended_nothing : e.kind ≡ 0 → state_of (reading l r.malformed r.overlap) cells ≡ with_entry file e (state_of r cells)
  unfolding with_entry
  ended_nothing p = rw (p, k) refl

  pub ended_other : (e.kind ≢ 0) → e.kind ≡ 2 → state_of (reading l true r.overlap) cells ≡ with_entry file e (state_of r cells)
  unfolding with_entry
  ended_other n p = rw (p, k) refl

  module _ (n : e.kind ≡ 0 → ⊥) (m : e.kind ≡ 2 → ⊥) where
    pub ended_overlapped : r.overlap ≡ true → state_of (reading l r.malformed true) cells ≡ with_entry file e (state_of r cells)
    unfolding with_entry
    ended_overlapped o = rw (ne_eqb e.kind 0 n, ne_eqb e.kind 2 m, o, k) refl

    pub ended_entry : (after : List ℕ) (t : Bool) → r.overlap ≡ false → Filled (fill_entry file e cells) (taken_by_entry file e cells) after t → state_of (reading l r.malformed t) after ≡ with_entry file e (state_of r cells)
    unfolding with_entry
    ended_entry after t o h = rw (ne_eqb e.kind 0 n, ne_eqb e.kind 2 m, o, k, h.cells, h.any) refl

pub line_ended_law : (file : ℕ) (r a : Reading) (cells after : List ℕ) (e : Entry) → e ≡ entry_of file r.line → state_of a after ≡ with_entry file e (state_of r cells) → state_of a after ≡ line_ended file (state_of r cells)
line_ended_law file r a cells after e p q = q ∙ ap (λ (x : Entry). with_entry file x (state_of r cells)) p

-- ---- bytes

module _ (file : ℕ) (r : Reading) (cells : List ℕ) (b : ℕ) where
  pub byte_newline : (a : Reading) (after : List ℕ) → b ≡ 0x0A → state_of a after ≡ line_ended file (state_of r cells) → state_of a after ≡ byte_read file (state_of r cells) b
  unfolding byte_read
  byte_newline a after e p = rw e p

  pub byte_more : (l : Line) → (b ≢ 0x0A) → l ≡ with_byte r.line b → state_of (reading l r.malformed r.overlap) cells ≡ byte_read file (state_of r cells) b
  unfolding byte_read
  byte_more l n e = rw (ne_eqb b 0x0A n, e) refl

pub record Left (file : ℕ) (s₀ : State) (part : List ℕ) (s : State) (i : ℕ) : Type 0 where
  pub work : bytes_read file s (drop i part) ≡ bytes_read file s₀ part

pub left_begins : (file : ℕ) (s₀ : State) (part : List ℕ) → Left file s₀ part s₀ 0
left_begins file s₀ part = record { work = refl }

module _ (file : ℕ) (s₀ : State) (part : List ℕ) (s : State) (i : ℕ) (left : Left file s₀ part s i) where
  pub left_turn : (s' : State) → i < length part → s' ≡ byte_read file s (slice_index part i) → Left file s₀ part s' (i + 1)
  unfolding bytes_read
  left_turn s' h e = record { work = rw (e, add-one) (rw (drop-cons part i 0 h) at left.work) }

  pub left_ends : length part ≤ i → s ≡ bytes_read file s₀ part
  unfolding bytes_read
  left_ends h = rw (drop_of_length-le part h) at left.work

-- parts one after the other are read as all their bytes at once
pub in_parts : (file : ℕ) (s : State) (a b : List ℕ) → bytes_read file s (a ++ b) ≡ bytes_read file (bytes_read file s a) b
unfolding bytes_read
in_parts file s [] b = refl
in_parts file s (x ∷ a) b = in_parts file (byte_read file s x) a b

pub file_ended_law : (file : ℕ) (s : State) (a : Reading) (cells after : List ℕ) → state_of a cells ≡ line_ended file s → after ≡ map kept_of cells → state_of a after ≡ file_ended file s
file_ended_law file s a cells after e p = rw (← e, p) refl

pub begun : (l : Line) → l ≡ empty → reading l false false ≡ reading empty false false
begun l e = rw e refl
