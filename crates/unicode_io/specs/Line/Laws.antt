-- A line's bytes one by one, and what it is at its end.
use Rattle.std.specs.Prelude.{◌≡◌, ℕ, ◌+◌, ◌*◌, ◌%◌, ◌<◌, ◌≤◌, Bool, true, false, cond, ◌&&◌, leb, List, length, take, ◌==◌, ◌≢◌, nat_le, slice_index, refl}
use Rattle.std.proofs.Common.{sym, ap, ◌∙◌, arith, eq-eqb, ne_eqb, lt-ltb, le-leb}
use Rattle.std.proofs.lemmas.List.{get_or_past}
use Rattle.buffer.specs.Conditions.{on_true, on_false}
use Rattle.buffer.specs.Numbers.{smaller_of}
use Rattle.buffer.specs.Numbers.Parts.{take_smaller}
use Rattle.unicode_io.specs.Names.{name_number}
use Rattle.unicode_io.specs.Grammar.{Entry, is_hex, hex_value, nothing, other_form}
use Rattle.unicode_io.specs.Line.{kind_of, stages, next_stage, with_digit, at_stage, with_low, with_high, with_name, in_name, with_byte, ranged, entry_of}
use Rattle.unicode_io.specs.declared.line.Number.{Number}
use Rattle.unicode_io.specs.declared.line.Line.{Line}

pub hex_small : (b : ℕ) → hex_value b ≤ 24
hex_small b = by_cases (nat_le b 0x39)
  where
    by_cases : (t : Bool) → cond t (b % 16) (b % 16 + 9) ≤ 24
    by_cases true = omega arith
    by_cases false = omega arith

pub kind_small : (b : ℕ) → kind_of b ≤ 4
kind_small b = by_cases (b == 0x20) (is_hex b) (b == 0x2E) (b == 0x3B)
  where
    by_cases : (s t u v : Bool) → cond s 0 (cond t 1 (cond u 2 (cond v 3 4))) ≤ 4
    by_cases true t u v = omega arith
    by_cases false true u v = omega arith
    by_cases false false true v = omega arith
    by_cases false false false true = omega arith
    by_cases false false false false = omega arith

pub digit_more : (n : Number) (b v : ℕ) → n.digits < 7 → n.value ≤ 0xFFFFFF → v ≡ hex_value b → ◌≡◌ {A = Number} (record { value = n.value * 16 + v; digits = n.digits + 1 }) (with_digit n b)
digit_more n b v h k e = rw (lt-ltb n.digits 7 h, le-leb n.value 0xFFFFFF k, e)

module _ (l : Line) (b : ℕ) where
  pub low_more : (n : Number) → n ≡ with_digit l.low b → ◌≡◌ {A = Line} (record { stage = 1; comment = l.comment; low = n; high = l.high; name = l.name; count = l.count }) (with_low l b)
  low_more n e = rw e refl

  pub high_more : (n : Number) → n ≡ with_digit l.high b → ◌≡◌ {A = Line} (record { stage = 5; comment = l.comment; low = l.low; high = n; name = l.name; count = l.count }) (with_high l b)
  high_more n e = rw e refl

  -- the stage after the byte, found once
  module _ (s : ℕ) (z : Line) (c : l.comment ≡ false) (n : b ≡ 0x23 → ⊥) (e : s ≡ next_stage l.stage b) where
    byte_stage : z ≡ cond (s == 1) (with_low l b) (cond (s == 5) (with_high l b) (cond (in_name l.stage s b) (with_name l s b) (at_stage l s))) → z ≡ with_byte l b
    unfolding with_byte
    byte_stage p = on_false l.comment _ _ z c (on_false (b == 0x23) _ _ z (ne_eqb b 0x23 n) (rw (← e) p))

    pub byte_low : s ≡ 1 → z ≡ with_low l b → z ≡ with_byte l b
    byte_low p q = byte_stage (on_true (s == 1) _ _ z (eq-eqb s 1 p) q)

    module _ (p : s ≡ 1 → ⊥) where
      pub byte_high : s ≡ 5 → z ≡ with_high l b → z ≡ with_byte l b
      byte_high q r = byte_stage (on_false (s == 1) _ _ z (ne_eqb s 1 p) (on_true (s == 5) _ _ z (eq-eqb s 5 q) r))

      module _ (q : s ≡ 5 → ⊥) (t : Bool) (u : t ≡ in_name l.stage s b) where
        pub byte_name : t ≡ true → z ≡ with_name l s b → z ≡ with_byte l b
        byte_name v r = byte_stage (on_false (s == 1) _ _ z (ne_eqb s 1 p) (on_false (s == 5) _ _ z (ne_eqb s 5 q) (on_true (in_name l.stage s b) _ _ z (sym u ∙ v) r)))

        pub byte_other : t ≡ false → z ≡ at_stage l s → z ≡ with_byte l b
        byte_other v r = byte_stage (on_false (s == 1) _ _ z (ne_eqb s 1 p) (on_false (s == 5) _ _ z (ne_eqb s 5 q) (on_false (in_name l.stage s b) _ _ z (sym u ∙ v) r)))

module _ (file : ℕ) (l : Line) (z : Entry) where
  pub entry_none : l.stage ≡ 0 → z ≡ nothing → z ≡ entry_of file l
  unfolding entry_of
  entry_none e p = rw e p

  module _ (s : l.stage ≡ 0 → ⊥) where
    pub entry_other : leb 8 l.stage && nat_le l.stage 9 ≡ false → z ≡ other_form → z ≡ entry_of file l
    unfolding entry_of
    entry_other t p = rw (ne_eqb l.stage 0 s, t) p

    module _ (t : leb 8 l.stage && nat_le l.stage 9 ≡ true) (n : ℕ) (e : n ≡ name_number file (take l.count l.name)) where
      entry_named : z ≡ cond (n == 0) other_form (ranged l.low l.high n) → z ≡ entry_of file l
      unfolding entry_of
      entry_named p = rw (ne_eqb l.stage 0 s, t, ← e) p

      pub entry_unnamed : n ≡ 0 → z ≡ other_form → z ≡ entry_of file l
      entry_unnamed q p = entry_named (on_true (n == 0) _ _ z (eq-eqb n 0 q) p)

      pub entry_known : (n ≢ 0) → z ≡ ranged l.low l.high n → z ≡ entry_of file l
      entry_known q p = entry_named (on_false (n == 0) _ _ z (ne_eqb n 0 q) p)

pub stage_at : (stage b k z : ℕ) → k ≡ kind_of b → z ≡ slice_index stages (stage * 5 + k) → z ≡ next_stage stage b
stage_at stage b k z e p = p ∙ ap (λ (n : ℕ). slice_index stages (stage * 5 + n)) e

pub named_is : (file : ℕ) (name : List ℕ) (count n z : ℕ) → n ≡ smaller_of count 32 → length name ≡ 32 → z ≡ name_number file (take n name) → z ≡ name_number file (take count name)
named_is file name count n z c k e = e ∙ ap (name_number file) (take_smaller name count n (rw k c))

-- from a number that no stage has
pub stage_past : (stage b : ℕ) → 10 < stage → 0 ≡ next_stage stage b
stage_past stage b h = sym (get_or_past stages (stage * 5 + kind_of b) 0 (omega arith))
