-- Classes and widths of ranges of scalars in document 01's profile.
use Rattle.std.proofs.Common.{◌∙◌, arith, leb→le}
use Rattle.std.specs.Prelude.{◌≡◌, refl, ◌%◌, ◌+◌, ◌-◌, ◌<◌, ◌≤◌, ℕ, Bool, ◌&&◌, ◌||◌, true, [], ◌∷◌, T, eqb, ltb}
use Rattle.std.proofs.Math.Path.{sym}
use Rattle.std.proofs.Math.Dec.{leb}
use borrow.Author.Tests.{eqb-true, le-leb}
use Rattle.text.specs.Tests.{and_T, cases, is_true, or_T, true_T, in_range_law, every, every_one}
use Rattle.text.specs.Utf8.{to}
use Rattle.text.specs.Class.{among, class01, controls, extends, in_any, number, pictographs}
use Rattle.text.specs.Class.Ranges.{clear, clear_within, clear_any, not_one}
use Rattle.text.specs.Width.{wides, width01}
use Rattle.text.specs.Class.Code.{jamo, printable, profile_of, syllable}
use Rattle.text.specs.declared.class.Profile as code

-- every test of class01 fails from a to b
unfoldable pub quiet_test : ℕ → ℕ → Bool
quiet_test a b =
    (ltb 0x0D a || ltb b 0x0D)
    && ((ltb 0x0A a || ltb b 0x0A)
    && ((ltb 0x200D a || ltb b 0x200D)
    && (clear a b controls
    && (clear a b extends
    && (clear a b (to 0x1100 0x115F ∷ to 0xA960 0xA97C ∷ [])
    && (clear a b (to 0x1160 0x11A7 ∷ to 0xD7B0 0xD7C6 ∷ [])
    && (clear a b (to 0x11A8 0x11FF ∷ to 0xD7CB 0xD7FB ∷ [])
    && (clear a b (to 0xAC00 0xD7A3 ∷ [])
    && (clear a b (to 0x1F1E6 0x1F1FF ∷ [])
    && clear a b pictographs)))))))))

quiet_other : (a b x : ℕ) → T (quiet_test a b) → a ≤ x → x ≤ b → number (class01 x) ≡ 11
unfolding quiet_test class01 number
quiet_other a b x t h k =
    let p₁ = and_T (ltb 0x0D a || ltb b 0x0D) _ t in
    let p₂ = and_T (ltb 0x0A a || ltb b 0x0A) _ p₁.1 in
    let p₃ = and_T (ltb 0x200D a || ltb b 0x200D) _ p₂.1 in
    let p₄ = and_T (clear a b controls) _ p₃.1 in
    let p₅ = and_T (clear a b extends) _ p₄.1 in
    let p₆ = and_T (clear a b (to 0x1100 0x115F ∷ to 0xA960 0xA97C ∷ [])) _ p₅.1 in
    let p₇ = and_T (clear a b (to 0x1160 0x11A7 ∷ to 0xD7B0 0xD7C6 ∷ [])) _ p₆.1 in
    let p₈ = and_T (clear a b (to 0x11A8 0x11FF ∷ to 0xD7CB 0xD7FB ∷ [])) _ p₇.1 in
    let p₉ = and_T (clear a b (to 0xAC00 0xD7A3 ∷ [])) _ p₈.1 in
    let p₁₀ = and_T (clear a b (to 0x1F1E6 0x1F1FF ∷ [])) _ p₉.1 in
    rw (
      not_one 0x0D a b x p₁.0 h k,
      not_one 0x0A a b x p₂.0 h k,
      clear_any controls a b x p₄.0 h k,
      clear_any extends a b x p₅.0 h k,
      not_one 0x200D a b x p₃.0 h k,
      clear_any (to 0x1100 0x115F ∷ to 0xA960 0xA97C ∷ []) a b x p₆.0 h k,
      clear_any (to 0x1160 0x11A7 ∷ to 0xD7B0 0xD7C6 ∷ []) a b x p₇.0 h k,
      clear_any (to 0x11A8 0x11FF ∷ to 0xD7CB 0xD7FB ∷ []) a b x p₈.0 h k,
      clear_any (to 0xAC00 0xD7A3 ∷ []) a b x p₉.0 h k,
      clear_any (to 0x1F1E6 0x1F1FF ∷ []) a b x p₁₀.0 h k,
      clear_any pictographs a b x p₁₀.1 h k,
    ) refl

pub other_class : (p : code.Profile) (a b x : ℕ) → T (quiet_test a b) → a ≤ x → x ≤ b → 11 ≡ number ((profile_of p).class x)
unfolding profile_of
other_class p a b x t lo hi = sym (quiet_other a b x t lo hi)

pub low_other : (p : code.Profile) (x : ℕ) → x < 0x300 → ((leb 0x20 x && leb x 0x7E) || leb 0xA0 x) ≡ true → 11 ≡ number ((profile_of p).class x)
unfolding quiet_test clear controls extends pictographs
low_other p x h e =
    or_T (leb 0x20 x && leb x 0x7E) (leb 0xA0 x) (true_T e)
    (λ t. let w = in_range_law 0x20 0x7E x (is_true _ t) in other_class p 0x20 0x7E x tt w.0 w.1)
    (λ t. other_class p 0xA0 0x2FF x tt (leb→le _ _ t) (omega arith))

-- ---- a small range, every class computed

classed : (ℕ → ℕ) → ℕ → Bool
classed f x = eqb (f x) (number (class01 x))

small_class : (p : code.Profile) (n lo x : ℕ) (f : ℕ → ℕ) → T (every (classed f) lo n) → lo ≤ x → x < lo + n → f x ≡ number ((profile_of p).class x)
unfolding profile_of classed
small_class p n lo x f t h k = eqb-true (f x) (number (class01 x)) (every_one (classed f) n lo x t h k)

module _ (p : code.Profile) (x : ℕ) where
  pub mark_class : 0x300 ≤ x → x ≤ 0x36F → 3 ≡ number ((profile_of p).class x)
  unfolding every classed number class01
  mark_class lo hi = small_class p 0x70 0x300 x (λ y. 3) tt lo (omega arith)

  pub jamo_class : 0x1100 ≤ x → x < 0x1200 → number (jamo x) ≡ number ((profile_of p).class x)
  unfolding every classed number class01
  jamo_class lo hi = small_class p 0x100 0x1100 x (λ y. number (jamo y)) tt lo hi

  pub indicator_class : 0x1F1E6 ≤ x → x ≤ 0x1F1FF → 10 ≡ number ((profile_of p).class x)
  unfolding every classed number class01
  indicator_class lo hi = small_class p 0x1A 0x1F1E6 x (λ y. 10) tt lo (omega arith)

-- ---- syllables

module _ (p : code.Profile) (x : ℕ) (lo : 0xAC00 ≤ x) (hi : x ≤ 0xD7A3) where
  pub syllable_class : (r : ℕ) → r ≡ number (syllable x) → r ≡ number ((profile_of p).class x)
  unfolding profile_of class01 in_any clear controls extends pictographs
  syllable_class r f =
      rw (
        not_one 0x0D 0xAC00 0xD7A3 x tt lo hi,
        not_one 0x0A 0xAC00 0xD7A3 x tt lo hi,
        clear_any controls 0xAC00 0xD7A3 x tt lo hi,
        clear_any extends 0xAC00 0xD7A3 x tt lo hi,
        not_one 0x200D 0xAC00 0xD7A3 x tt lo hi,
        clear_any (to 0x1100 0x115F ∷ to 0xA960 0xA97C ∷ []) 0xAC00 0xD7A3 x tt lo hi,
        clear_any (to 0x1160 0x11A7 ∷ to 0xD7B0 0xD7C6 ∷ []) 0xAC00 0xD7A3 x tt lo hi,
        clear_any (to 0x11A8 0x11FF ∷ to 0xD7CB 0xD7FB ∷ []) 0xAC00 0xD7A3 x tt lo hi,
        le-leb 0xAC00 x lo,
        le-leb x 0xD7A3 hi,
      ) f

-- ---- widths of common scalars

module _ (p : code.Profile) (x : ℕ) where
  pub narrow_width : (a b : ℕ) → T (quiet_test a b) → T (clear a b wides) → a ≤ x → x ≤ b → 1 ≡ (profile_of p).width x
  unfolding profile_of width01 among number
  narrow_width a b q w lo hi = sym (rw (quiet_other a b x q lo hi, clear_any wides a b x w lo hi) refl)

  pub letter_width : ((leb 0xA0 x && leb x 0x2FF) || (leb 0x370 x && leb x 0x482)) ≡ true → 1 ≡ (profile_of p).width x
  unfolding quiet_test clear controls extends pictographs wides
  letter_width e =
      or_T (leb 0xA0 x && leb x 0x2FF) (leb 0x370 x && leb x 0x482) (true_T e)
      (λ t. let w = in_range_law 0xA0 0x2FF x (is_true _ t) in narrow_width 0xA0 0x2FF tt tt w.0 w.1)
      (λ t. let w = in_range_law 0x370 0x482 x (is_true _ t) in narrow_width 0x370 0x482 tt tt w.0 w.1)

  pub printable_width : (t : Bool) → t ≡ printable x → t ≡ true → 1 ≡ (profile_of p).width x
  unfolding quiet_test clear controls extends pictographs wides
  printable_width t f e = let w = in_range_law 0x20 0x7E x (sym f ∙ e) in narrow_width 0x20 0x7E tt tt w.0 w.1

  pub wide_width : 0x3041 ≤ x → x ≤ 0xA4CF → 2 ≡ (profile_of p).width x
  unfolding profile_of width01 clear wides in_any quiet_test controls extends pictographs among number
  wide_width lo hi =
      sym (rw (quiet_other 0x3041 0xA4CF x tt lo hi, clear_within (to 0x1100 0x115F) 0x3041 0xA4CF x tt lo hi, clear_within (to 0x2E80 0x303E) 0x3041 0xA4CF x tt lo hi, le-leb 0x3041 x lo, le-leb x 0xA4CF hi) refl)

  pub syllable_width : 0xAC00 ≤ x → x ≤ 0xD7A3 → 2 ≡ (profile_of p).width x
  unfolding profile_of width01 in_any wides clear among number
  syllable_width lo hi =
      let w₁ = clear_within (to 0x1100 0x115F) 0xAC00 0xD7A3 x tt lo hi in
      let w₂ = clear_within (to 0x2E80 0x303E) 0xAC00 0xD7A3 x tt lo hi in
      let w₃ = clear_within (to 0x3041 0xA4CF) 0xAC00 0xD7A3 x tt lo hi in
      let w₄ = clear_within (to 0xA960 0xA97C) 0xAC00 0xD7A3 x tt lo hi in
      cases (eqb ((x - 0xAC00) % 28) 0)
      (λ z. sym (rw (← syllable_class p x lo hi 8 (rw z refl), w₁, w₂, w₃, w₄, le-leb 0xAC00 x lo, le-leb x 0xD7A3 hi) refl))
      (λ z. sym (rw (← syllable_class p x lo hi 9 (rw z refl), w₁, w₂, w₃, w₄, le-leb 0xAC00 x lo, le-leb x 0xD7A3 hi) refl))

-- ---- a small range, every width computed

wide_by : ℕ → ℕ → Bool
wide_by w x = eqb (width01 x) w

small_width : (p : code.Profile) (n lo w x : ℕ) → T (every (wide_by w) lo n) → lo ≤ x → x < lo + n → w ≡ (profile_of p).width x
unfolding profile_of wide_by
small_width p n lo w x t h k = sym (eqb-true (width01 x) w (every_one (wide_by w) n lo x t h k))

module _ (p : code.Profile) (x : ℕ) where
  pub picture_width : 0x1F300 ≤ x → x ≤ 0x1F64F → 2 ≡ (profile_of p).width x
  unfolding every wide_by width01
  picture_width lo hi = small_width p 848 0x1F300 2 x tt lo (omega arith)

  pub indicator_width : 0x1F1E6 ≤ x → x ≤ 0x1F1FF → 1 ≡ (profile_of p).width x
  unfolding every wide_by width01
  indicator_width lo hi = small_width p 26 0x1F1E6 1 x tt lo (omega arith)
