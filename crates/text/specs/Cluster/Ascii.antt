-- Clusters of scalars below 80, and of scalars of class LV, LVT and other.
use Rattle.std.specs.Prelude.{◌≡◌, ◌≢◌, ℕ, ◌≤◌, ◌<◌, Bool, cond, ◌&&◌, ◌||◌, eqb, ltb}
use Rattle.std.proofs.Math.Path.{refl, ap}
use Rattle.std.proofs.Common.{sym, ◌∙◌, eqb-true, ltb-true}
use native.Mathlib.Omega.{arith}
use Rattle.std.proofs.Math.Bool.{true, false, and-false}
use mathlib.Core.List.{List, [], ◌∷◌}
use Rattle.text.specs.Tests.{cases}
use Rattle.text.specs.Each.{All}
use Rattle.text.specs.Utf8.{Scalar, ascii, reads}
use Rattle.text.specs.Utf8.AsciiTexts.{reads_ascii}
use Rattle.text.specs.Utf8.Valid.{Valid}
use Rattle.text.specs.Class.{Profile, among, control, cr, lf, number}
use Rattle.text.specs.Class.Ascii.{AsciiClasses, SyllableColumns, by_syllable, c0_class, control_class, control_columns, printable_class, printable_columns, syllable_or_other}
use Rattle.text.specs.Width.{width_of}
use Rattle.text.specs.Cluster.{Context, class_of, clusters, context, joined, joins}
use Rattle.text.specs.Cluster.Laws.{clusters_apart, clusters_first, clusters_nil, clusters_one}
use Rattle.text.specs.Segmentation.{first_of}
use Rattle.text.specs.Class.Code.{printable}

-- ---- the rules

-- GB4
pub after_control : (p : ℕ) (k : Context) (c : ℕ) → among p (lf ∷ control ∷ []) ≡ true → joined p k c ≡ false
unfolding joined among number
after_control p k c h = cases (eqb p 1) (λ e. rw (eqb-true p 1 e)) (λ e. rw (eqb-true p 2 (rw e at h)))

-- GB5
pub before_control : (p : ℕ) (k : Context) (c : ℕ) → syllable_or_other p ≡ true → among c (control ∷ cr ∷ lf ∷ []) ≡ true → joined p k c ≡ false
unfolding joined among number
before_control p k c h e = by_syllable (λ (n : ℕ). joined n k c ≡ false) p h (rw e) (rw e) (rw e) (rw e)

-- GB999
pub between_syllables : (p : ℕ) (k : Context) (c : ℕ) → k.emoji_zwj ≡ false → syllable_or_other p ≡ true → syllable_or_other c ≡ true → joined p k c ≡ false
unfolding joined among number
between_syllables p k c z h g =
    by_syllable (λ (n : ℕ). joined p k n ≡ false) c g
    (by_syllable (λ (n : ℕ). joined n k 8 ≡ false) p h odd odd odd odd)
    (by_syllable (λ (n : ℕ). joined n k 9 ≡ false) p h odd odd odd odd)
    (by_syllable (λ (n : ℕ). joined n k 11 ≡ false) p h odd odd odd odd)
    (by_syllable (λ (n : ℕ). joined n k 12 ≡ false) p h picture picture picture picture)
  where
    odd : cond (k.emoji_zwj && false) true (cond (k.odd && false) true false) ≡ false
    odd = rw (and-false k.emoji_zwj, and-false k.odd) refl

    picture : cond (k.emoji_zwj && true) true (cond (k.odd && false) true false) ≡ false
    picture = rw (z, and-false k.odd) refl

-- ---- clusters of one scalar

module _ (P : Profile) (a : AsciiClasses P) where
  -- a control below 20, CR apart
  pub c0_cluster : (v : ℕ) (s : List Scalar) → v < 0x20 → v ≢ 0x0D → clusters P (ascii v ∷ s) ≡ (ascii v ∷ []) ∷ clusters P s
  unfolding joins
  c0_cluster v [] h n = clusters_one P (ascii v) ∙ ap (λ (gs : List (List Scalar)). (ascii v ∷ []) ∷ gs) (sym (clusters_nil P))
  c0_cluster v (d ∷ s) h n = clusters_apart P (ascii v) d s (after_control (number (P.class v)) (context P (ascii v ∷ [])) (class_of P d) (c0_class P a v h n))

  -- one of class LV, LVT or other before another of these, or one below 80
  pub syllable_cluster : (c d : Scalar) (s : List Scalar) → syllable_or_other (class_of P c) ≡ true → (syllable_or_other (class_of P d) || ltb d.code 0x80) ≡ true → clusters P (c ∷ d ∷ s) ≡ (c ∷ []) ∷ clusters P (d ∷ s)
  unfolding joins context
  syllable_cluster c d s h e = clusters_apart P c d s (apart (syllable_or_other (class_of P d)) refl)
    where
      other : syllable_or_other (class_of P d) ≡ true → joins P (c ∷ []) d ≡ false
      other f = between_syllables (class_of P c) (context P (c ∷ [])) (class_of P d) refl h f

      low : d.code < 0x80 → joins P (c ∷ []) d ≡ false
      low l = cases (printable d.code)
          (λ p. other (rw (printable_class P a d.code p) refl))
          (λ p. before_control (class_of P c) (context P (c ∷ [])) (class_of P d) h (control_class P a d.code l p))

      apart : (b : Bool) → syllable_or_other (class_of P d) ≡ b → joins P (c ∷ []) d ≡ false
      apart true f = other f
      apart false f = low (ltb-true d.code 0x80 (rw f at e))

-- ---- columns

module _ (P : Profile) where
  width_one : (c : Scalar) → width_of P (c ∷ []) ≡ P.width c.code
  unfolding width_of
  width_one c = omega arith

  pub syllable_width : SyllableColumns P → (c : Scalar) → syllable_or_other (class_of P c) ≡ true → 1 ≤ width_of P (c ∷ [])
  syllable_width w c h = rw (width_one c) (w.some c.code h)

  module _ (a : AsciiClasses P) where
    pub control_width : (v : ℕ) → v < 0x80 → printable v ≡ false → width_of P (ascii v ∷ []) ≡ 0
    control_width v h e = width_one (ascii v) ∙ control_columns P a v h e

    -- a text that has a width does not read as a control
    pub wide_reads : (v : ℕ) → v < 0x80 → printable v ≡ false → (g : List Scalar) → All Valid g → 1 ≤ width_of P g → reads g (v ∷ []) ≡ false
    wide_reads v h e g a w = cases (reads g (v ∷ [])) (λ r. absurd (omega (arith, ap (width_of P) (reads_ascii v h a r), control_width v h e))) (λ r. r)

    pub newline_width : width_of P (ascii 0x0D ∷ ascii 0x0A ∷ []) ≡ 0
    unfolding width_of
    newline_width = omega (arith, control_columns P a 0x0D (omega arith) refl, control_columns P a 0x0A (omega arith) refl)

    -- a printable scalar begins a cluster that has a width
    pub printable_width : (v : ℕ) (s : List Scalar) → printable v ≡ true → 1 ≤ width_of P (first_of (clusters P (ascii v ∷ s)))
    unfolding width_of first_of
    printable_width v s e = rw (clusters_first P (ascii v) s, printable_columns P a v e) (omega arith)
