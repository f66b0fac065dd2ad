-- The first line, read byte by byte.
use mathlib.Core.Path.{◌≡◌, refl, sym, ap, ap₂, ◌∙◌}
use Prim.Native.Nat.{ℕ, suc, ◌+◌, ◌≤◌, ◌<◌}
use native.Mathlib.Numerals.{add-one}
use native.Mathlib.Omega.{arith}
use mathlib.Core.Bool.{true, false}
use mathlib.Core.List.{List, [], ◌∷◌}
use lib.ListN.{length, drop, get_or, drop_of_length-le}
use lib.Seq.{drop-cons}
use lib.Dec.{leb, leb→le}
use borrow.Author.Tests.{ne_eqb}
use Rattle.text.specs.Tests.{and_T, true_T}
use Rattle.rows_io.specs.FirstLine.{digit, more, with_digit, with_byte, with_bytes, read_of, part_of}
use Rattle.rows_io.specs.FirstLine.Laws.{bytes_more, read_more, bytes_none, read_none, bytes_ended, read_ended}
use Rattle.rows_io.specs.declared.first_line.FirstLine.{FirstLine}
use Rattle.rows_io.specs.declared.first_line.Part.{Part}

-- ---- one byte

pub digit_low : (b : ℕ) → digit b ≡ true → 0x30 ≤ b
digit_low b e = leb→le _ _ (and_T (leb 0x30 b) (leb b 0x39) (true_T e)).0

pub digit_in_width : (f : FirstLine) (b w : ℕ) → f.stage ≡ 0 → w ≡ more f.width b → ◌≡◌ {A = FirstLine} (record { stage = 0; digits = true; width = w; mode = f.mode; ended = false }) (with_digit f b)
unfolding with_digit
digit_in_width f b w e k = rw (e, k)

pub digit_in_mode : (f : FirstLine) (b m : ℕ) → (f.stage ≡ 0 → ⊥) → f.stage ≡ 1 → m ≡ more f.mode b → ◌≡◌ {A = FirstLine} (record { stage = 1; digits = true; width = f.width; mode = m; ended = false }) (with_digit f b)
unfolding with_digit
digit_in_mode f b m h e k = rw (e, k)

pub digit_elsewhere : (f : FirstLine) (b : ℕ) → (f.stage ≡ 0 → ⊥) → (f.stage ≡ 1 → ⊥) → f ≡ with_digit f b
unfolding with_digit
digit_elsewhere f b h k = rw (ne_eqb f.stage 0 h, ne_eqb f.stage 1 k)

-- ---- more bytes

-- f after i bytes of s
pub record Reading (start : FirstLine) (s : List ℕ) (f : FirstLine) (i : ℕ) : Type 0 where
  pub same : with_bytes f (drop i s) ≡ with_bytes start s
  pub count : i + read_of f (drop i s) ≡ read_of start s
  pub low : i ≤ length s

pub reading_begins : (start : FirstLine) (s : List ℕ) → Reading start s start 0
reading_begins start s = record { same = refl; count = omega arith; low = omega arith }

module _ (start : FirstLine) (s : List ℕ) (f : FirstLine) (i : ℕ) (z : Reading start s f i) where
  pub reading_more : (g : FirstLine) → i < length s → f.ended ≡ false → g ≡ with_byte f (get_or s i 0) → Reading start s g (i + 1)
  reading_more g h e k =
      let d : drop i s ≡ get_or s i 0 ∷ drop (i + 1) s = drop-cons s i 0 h ∙ ap (λ (n : ℕ). get_or s i 0 ∷ drop n s) (sym (add-one i)) in
      let a : with_bytes f (drop i s) ≡ with_bytes g (drop (i + 1) s) = ap (with_bytes f) d ∙ bytes_more f (get_or s i 0) (drop (i + 1) s) e ∙ ap (λ (x : FirstLine). with_bytes x (drop (i + 1) s)) (sym k) in
      let b : read_of f (drop i s) ≡ suc (read_of g (drop (i + 1) s)) = ap (read_of f) d ∙ read_more f (get_or s i 0) (drop (i + 1) s) e ∙ ap (λ (x : FirstLine). suc (read_of x (drop (i + 1) s))) (sym k) in
      record { same = sym a ∙ z.same; count = omega (arith, b, z.count); low = omega arith }

  same_part : f ≡ with_bytes f (drop i s) → read_of f (drop i s) ≡ 0 → ◌≡◌ {A = Part} (record { first = f; at = i }) (part_of start s)
  same_part a b = let n : i ≡ read_of start s = omega (arith, b, z.count) in ap₂ (λ (g : FirstLine) (k : ℕ). record { first = g; at = k }) (a ∙ z.same) n

  pub reading_ended : f.ended ≡ true → ◌≡◌ {A = Part} (record { first = f; at = i }) (part_of start s)
  reading_ended e = same_part (sym (bytes_ended (drop i s) f e)) (read_ended (drop i s) f e)

  pub reading_past : length s ≤ i → ◌≡◌ {A = Part} (record { first = f; at = length s }) (part_of start s)
  reading_past h =
      let d : drop i s ≡ [] = drop_of_length-le s h in
      let e : length s ≡ i = omega (arith, z.low) in
      ap (λ (n : ℕ). record { first = f; at = n }) e ∙ same_part (sym (bytes_none f) ∙ ap (with_bytes f) (sym d)) (ap (read_of f) d ∙ read_none f)
