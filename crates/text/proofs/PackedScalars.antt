-- A packed scalar by its value, ranges computed whole, and by its bytes.
use Prim.Native.Nat.{◌%◌, ◌*◌, ◌+◌, ◌-◌, ◌/◌, ◌<◌, ◌≤◌, ℕ}
use native.Mathlib.Omega.{arith}
use mathlib.Core.Bool.{Bool, ◌&&◌, ◌||◌, false, true}
use mathlib.Core.List.{List}
use mathlib.Core.Logic.{◌≢◌}
use mathlib.Core.Path.{◌∙◌, ◌≡◌, ap, refl, sym}
use lib.Dec.{T, eqb, leb}
use lib.ListN.{get_or, length}
use borrow.Author.Tests.{eq-eqb, eqb-true, ne_eqb}
use Rattle.text.specs.Class.{Profile, class01, controls, extends, in_any, number, pictographs}
use Rattle.std.specs.Prelude.{Option, None, Some}
use Rattle.text.specs.Utf8.Code.{four_bytes, is_tail, three_bytes, two_bytes}
use Rattle.text.specs.Class.Code.{profile_of}
use Rattle.text.specs.Scalar.{packed_as, packed_at, scalar_here}
use Rattle.text.specs.Scalar.Laws.{none_here, nothing_is, scalar_is, some_here}
use Rattle.text.specs.declared.scalar.Scalar as packed
use Rattle.text.specs.Width.{width01}
use Rattle.text.specs.Tests.{in_range_law, is_true, or_T, true_T, every, every_one}
use Rattle.text.proofs.LeadBytes.{four_or_zero, no_second, no_third, three_or_zero, two_or_zero, zero_for}
use Rattle.text.specs.declared.class.Profile as code
use Rattle.text.specs.Utf8.Code.FirstSequence.{ascii_sequence}
use Rattle.text.specs.Class.Ranges.{clear}
use Rattle.text.specs.Class.Document01.{other_class, quiet_test, syllable_class, syllable_width, wide_width}

is : ℕ → ℕ → Bool
is k x = eqb (number (class01 x) + 16 * width01 x) k

leaf : (f : code.Profile) (n lo m k x : ℕ) → T (every (is k) lo m) → lo ≤ x → x < lo + m → n + 8 * k ≡ packed_as (profile_of f) n x
unfolding profile_of is
leaf f n lo m k x t h l = ap (λ (y : ℕ). n + 8 * y) (sym (eqb-true (number (class01 x) + 16 * width01 x) k (every_one (is k) m lo x t h l)))

printables : T (every (is 27) 0x20 95)
unfolding every is number class01 width01
printables = tt

letters : T (every (is 27) 0xA0 608)
unfolding every is number class01 width01
letters = tt

greek : T (every (is 27) 0x370 275)
unfolding every is number class01 width01
greek = tt

marks : T (every (is 3) 0x300 112)
unfolding every is number class01 width01
marks = tt

leads : T (every (is 37) 0x1100 96)
unfolding every is number class01 width01
leads = tt

vowels : T (every (is 6) 0x1160 72)
unfolding every is number class01 width01
vowels = tt

tails : T (every (is 7) 0x11A8 88)
unfolding every is number class01 width01
tails = tt

indicators : T (every (is 26) 0x1F1E6 26)
unfolding every is number class01 width01
indicators = tt

pictures : T (every (is 44) 0x1F300 848)
unfolding every is number class01 width01
pictures = tt

more_pictures : T (every (is 44) 0x1F900 256)
unfolding every is number class01 width01
more_pictures = tt

signs : T (every (is 27) 0x1F650 688)
unfolding every is number class01 width01
signs = tt

-- a control below 80
control_test : ℕ → Bool
control_test x = (leb 0x20 x && leb x 0x7E) || (eqb x 0x0D || (eqb x 0x0A || is 2 x))

all_controls : T (every control_test 0 128)
unfolding every control_test is number class01 width01
all_controls = tt

control_is : (x : ℕ) → x < 0x80 → (leb 0x20 x && leb x 0x7E) ≡ false → (x ≢ 0x0D) → (x ≢ 0x0A) → is 2 x ≡ true
unfolding control_test
control_is x l e m n = rw (e, ne_eqb x 0x0D m, ne_eqb x 0x0A n) at (every_one control_test 128 0 x all_controls (omega arith) (omega (arith, l)))

module _ (f : code.Profile) (x : ℕ) where
  abbrev P : Profile
  P = profile_of f

  pub printable_one : (leb 0x20 x && leb x 0x7E) ≡ true → 217 ≡ packed_as P 1 x
  printable_one e = let w = in_range_law 0x20 0x7E x e in leaf f 1 0x20 95 27 x printables w.0 (omega (arith, w.1))

  pub letter : (leb 0xA0 x && leb x 0x2FF) ≡ true → 218 ≡ packed_as P 2 x
  letter e = let w = in_range_law 0xA0 0x2FF x e in leaf f 2 0xA0 608 27 x letters w.0 (omega (arith, w.1))

  pub greek_letter : (leb 0x370 x && leb x 0x482) ≡ true → 218 ≡ packed_as P 2 x
  greek_letter e = let w = in_range_law 0x370 0x482 x e in leaf f 2 0x370 275 27 x greek w.0 (omega (arith, w.1))

  pub mark : (leb 0x300 x && leb x 0x36F) ≡ true → 26 ≡ packed_as P 2 x
  mark e = let w = in_range_law 0x300 0x36F x e in leaf f 2 0x300 112 3 x marks w.0 (omega (arith, w.1))

  pub lead : (leb 0x1100 x && leb x 0x115F) ≡ true → 299 ≡ packed_as P 3 x
  lead e = let w = in_range_law 0x1100 0x115F x e in leaf f 3 0x1100 96 37 x leads w.0 (omega (arith, w.1))

  pub vowel : (leb 0x1160 x && leb x 0x11A7) ≡ true → 51 ≡ packed_as P 3 x
  vowel e = let w = in_range_law 0x1160 0x11A7 x e in leaf f 3 0x1160 72 6 x vowels w.0 (omega (arith, w.1))

  pub final : (leb 0x11A8 x && leb x 0x11FF) ≡ true → 59 ≡ packed_as P 3 x
  final e = let w = in_range_law 0x11A8 0x11FF x e in leaf f 3 0x11A8 88 7 x tails w.0 (omega (arith, w.1))

  pub indicator : (leb 0x1F1E6 x && leb x 0x1F1FF) ≡ true → 212 ≡ packed_as P 4 x
  indicator e = let w = in_range_law 0x1F1E6 0x1F1FF x e in leaf f 4 0x1F1E6 26 26 x indicators w.0 (omega (arith, w.1))

  pub picture : (r : Bool) → r ≡ in_any pictographs x → r ≡ true → 356 ≡ packed_as P 4 x
  unfolding in_any pictographs
  picture r e t =
      or_T (leb 0x1F300 x && leb x 0x1F64F) (leb 0x1F900 x && leb x 0x1F9FF) (true_T (sym e ∙ t))
      (λ h. let w = in_range_law 0x1F300 0x1F64F x (is_true _ h) in leaf f 4 0x1F300 848 44 x pictures w.0 (omega (arith, w.1)))
      (λ h. let w = in_range_law 0x1F900 0x1F9FF x (is_true _ h) in leaf f 4 0x1F900 256 44 x more_pictures w.0 (omega (arith, w.1)))

  pub sign : (leb 0x1F650 x && leb x 0x1F8FF) ≡ true → 220 ≡ packed_as P 4 x
  sign e = let w = in_range_law 0x1F650 0x1F8FF x e in leaf f 4 0x1F650 688 27 x signs w.0 (omega (arith, w.1))

  pub carriage : x ≡ 0x0D → 1 ≡ packed_as P 1 x
  unfolding profile_of number class01 width01
  carriage e = rw e refl

  pub line_feed : x ≡ 0x0A → 9 ≡ packed_as P 1 x
  unfolding profile_of number class01 width01
  line_feed e = rw e refl

  pub lone_control : x < 0x80 → (leb 0x20 x && leb x 0x7E) ≡ false → (x ≢ 0x0D) → (x ≢ 0x0A) → 17 ≡ packed_as P 1 x
  unfolding profile_of is
  lone_control l e m n = ap (λ (y : ℕ). 1 + 8 * y) (sym (eqb-true (number (class01 x) + 16 * width01 x) 2 (control_is x l e m n)))

  pub wide : (leb 0x3041 x && leb x 0xA4CF) ≡ true → 347 ≡ packed_as P 3 x
  unfolding quiet_test clear controls extends pictographs
  wide e =
      let w = in_range_law 0x3041 0xA4CF x e in
      let c : 11 ≡ number (P.class x) = other_class f 0x2100 0xA95F x tt (omega (arith, w.0)) (omega (arith, w.1)) in
      rw (← c, ← wide_width f x w.0 w.1) refl

  pub open_syllable : (leb 0xAC00 x && leb x 0xD7A3) ≡ true → (x - 0xAC00) % 28 ≡ 0 → 323 ≡ packed_as P 3 x
  unfolding number
  open_syllable e z =
      let w = in_range_law 0xAC00 0xD7A3 x e in
      let c : 8 ≡ number (P.class x) = syllable_class f x w.0 w.1 8 (rw (eq-eqb ((x - 0xAC00) % 28) 0 z) refl) in
      rw (← c, ← syllable_width f x w.0 w.1) refl

  pub closed_syllable : (leb 0xAC00 x && leb x 0xD7A3) ≡ true → ((x - 0xAC00) % 28 ≢ 0) → 331 ≡ packed_as P 3 x
  unfolding number
  closed_syllable e z =
      let w = in_range_law 0xAC00 0xD7A3 x e in
      let c : 9 ≡ number (P.class x) = syllable_class f x w.0 w.1 9 (rw (ne_eqb ((x - 0xAC00) % 28) 0 z) refl) in
      rw (← c, ← syllable_width f x w.0 w.1) refl

-- ---- by the bytes

-- a packed scalar is not 0
packed_some : (P : Profile) (n x r : ℕ) → 1 ≤ n → r ≡ packed_as P n x → (r ≢ 0)
packed_some P n x r h e z = omega (arith, e, z, h)

module _ (P : Profile) (s : List ℕ) (p : ℕ) where
  here_is : (n x : ℕ) (v : packed.Scalar) → 1 ≤ n → v.0 ≡ packed_as P n x → v.0 ≡ packed_at P s p → Some v ≡ scalar_here P s p
  here_is n x v h e f = scalar_is P s p v f (packed_some P n x v.0 h e)

pub first_packed : (P : Profile) (s : List ℕ) (p a r : ℕ) → p < length s → a ≡ get_or s p 0 → a ≤ 0x7F → r ≡ packed_as P 1 a → r ≡ packed_at P s p
unfolding packed_at
first_packed P s p a r here ea l e = rw (← ascii_sequence s p a here ea (omega (arith, l))) e

pub first_here : (P : Profile) (s : List ℕ) (p a : ℕ) (v : packed.Scalar) → p < length s → a ≡ get_or s p 0 → a ≤ 0x7F → v.0 ≡ packed_as P 1 a → Some v ≡ scalar_here P s p
first_here P s p a v here ea l e = here_is P s p 1 a v (omega arith) e (first_packed P s p a v.0 here ea l e)

module _ (P : Profile) (s : List ℕ) (p a b : ℕ) (here : p < length s) (ea : a ≡ get_or s p 0) (eb : b ≡ get_or s (p + 1) 0) (t : Bool) (et : t ≡ is_tail b) where
  module _ (tt' : t ≡ true) where
    module _ (lo : 0x7F < a) (hi : a ≤ 0xDF) where
      two_packed : (o : Option ℕ) → o ≡ two_bytes a b → (x r : ℕ) → o ≡ Some x → r ≡ packed_as P 2 x → r ≡ packed_at P s p
      unfolding packed_at zero_for
      two_packed o eo x r ex e = rw (← two_or_zero s p a b here ea eb t et tt' (Some x) (sym ex ∙ eo) lo hi) e

      two_none : (o : Option ℕ) → o ≡ two_bytes a b → o ≡ None → 0 ≡ packed_at P s p
      unfolding packed_at zero_for
      two_none o eo ex = rw (← two_or_zero s p a b here ea eb t et tt' None (sym ex ∙ eo) lo hi) refl

      pub two_here : (o : Option ℕ) → o ≡ two_bytes a b → (x : ℕ) (v : packed.Scalar) → o ≡ Some x → v.0 ≡ packed_as P 2 x → Some v ≡ scalar_here P s p
      two_here o eo x v ex e = here_is P s p 2 x v (omega arith) e (two_packed o eo x v.0 ex e)

      pub two_nothing : (o : Option ℕ) (r : Option packed.Scalar) → o ≡ two_bytes a b → o ≡ None → r ≡ None → r ≡ scalar_here P s p
      two_nothing o r eo ex er = er ∙ nothing_is P s p (two_none o eo ex)

    module _ (c : ℕ) (ec : c ≡ get_or s (p + 2) 0) (u : Bool) (eu : u ≡ is_tail c) where
      module _ (uu : u ≡ true) where
        module _ (lo : 0xDF < a) (hi : a ≤ 0xEF) where
          three_packed : (o : Option ℕ) → o ≡ three_bytes a b c → (x r : ℕ) → o ≡ Some x → r ≡ packed_as P 3 x → r ≡ packed_at P s p
          unfolding packed_at zero_for
          three_packed o eo x r ex e = rw (← three_or_zero s p a b here ea eb t et tt' c ec u eu uu (Some x) (sym ex ∙ eo) lo hi) e

          three_none : (o : Option ℕ) → o ≡ three_bytes a b c → o ≡ None → 0 ≡ packed_at P s p
          unfolding packed_at zero_for
          three_none o eo ex = rw (← three_or_zero s p a b here ea eb t et tt' c ec u eu uu None (sym ex ∙ eo) lo hi) refl

          pub three_here : (o : Option ℕ) → o ≡ three_bytes a b c → (x : ℕ) (v : packed.Scalar) → o ≡ Some x → v.0 ≡ packed_as P 3 x → Some v ≡ scalar_here P s p
          three_here o eo x v ex e = here_is P s p 3 x v (omega arith) e (three_packed o eo x v.0 ex e)

          pub three_nothing : (o : Option ℕ) (r : Option packed.Scalar) → o ≡ three_bytes a b c → o ≡ None → r ≡ None → r ≡ scalar_here P s p
          three_nothing o r eo ex er = er ∙ nothing_is P s p (three_none o eo ex)

        module _ (d : ℕ) (ed : d ≡ get_or s (p + 3) 0) (lo : 0xEF < a) where
          four_packed : (o : Option ℕ) → o ≡ four_bytes a b c d → (x r : ℕ) → o ≡ Some x → r ≡ packed_as P 4 x → r ≡ packed_at P s p
          unfolding packed_at zero_for
          four_packed o eo x r ex e = rw (← four_or_zero s p a b here ea eb t et tt' c ec u eu uu d (Some x) ed (sym ex ∙ eo) lo) e

          four_none : (o : Option ℕ) → o ≡ four_bytes a b c d → o ≡ None → 0 ≡ packed_at P s p
          unfolding packed_at zero_for
          four_none o eo ex = rw (← four_or_zero s p a b here ea eb t et tt' c ec u eu uu d None ed (sym ex ∙ eo) lo) refl

          pub four_here : (o : Option ℕ) → o ≡ four_bytes a b c d → (x : ℕ) (v : packed.Scalar) → o ≡ Some x → v.0 ≡ packed_as P 4 x → Some v ≡ scalar_here P s p
          four_here o eo x v ex e = here_is P s p 4 x v (omega arith) e (four_packed o eo x v.0 ex e)

          pub four_nothing : (o : Option ℕ) (r : Option packed.Scalar) → o ≡ four_bytes a b c d → o ≡ None → r ≡ None → r ≡ scalar_here P s p
          four_nothing o r eo ex er = er ∙ nothing_is P s p (four_none o eo ex)

      third_none : u ≡ false → 0xDF < a → 0 ≡ packed_at P s p
      unfolding packed_at
      third_none uf lo = rw (← no_third s p a b here ea eb t et tt' c u ec eu uf lo) refl

      pub third_nothing : u ≡ false → 0xDF < a → None ≡ scalar_here P s p
      third_nothing uf lo = nothing_is P s p (third_none uf lo)

  second_none : t ≡ false → 0x7F < a → 0 ≡ packed_at P s p
  unfolding packed_at
  second_none tf lo = rw (← no_second s p a b here ea eb t et tf lo) refl

  pub second_nothing : t ≡ false → 0x7F < a → None ≡ scalar_here P s p
  second_nothing tf lo = nothing_is P s p (second_none tf lo)

-- ---- what was read at a place, by its number

module _ (P : Profile) (s : List ℕ) (p : ℕ) (o : Option packed.Scalar) (read : o ≡ scalar_here P s p) where
  pub class_some : (v : packed.Scalar) (k : ℕ) → o ≡ Some v → k ≡ v.0 / 8 % 16 → k ≡ packed_at P s p / 8 % 16
  class_some v k e f = rw (← (some_here P s p o read v e).0) f

  pub class_none : o ≡ None → 0 ≡ packed_at P s p / 8 % 16
  class_none e = rw (none_here P s p o read e) refl

  pub indicator_some : (v : packed.Scalar) (b : Bool) → o ≡ Some v → b ≡ eqb v.0 212 → b ≡ eqb (packed_at P s p) 212
  indicator_some v b e f = rw (← (some_here P s p o read v e).0) f

  pub indicator_none : o ≡ None → false ≡ eqb (packed_at P s p) 212
  indicator_none e = rw (none_here P s p o read e) refl
