-- What laws ask of a profile: the classes and widths of scalars below 80, and columns for those of class LV, LVT and other.
use Rattle.std.specs.Prelude.{◌≡◌, ◌≢◌, ℕ, ◌≤◌, ◌<◌, Bool, true, false, cond, ◌||◌, [], ◌∷◌, eqb, leb}
use Rattle.std.proofs.Math.Path.{refl}
use Rattle.std.proofs.Common.{◌∙◌, arith, leb→le}
use borrow.Author.Tests.{eqb-true, lt-leb, ne_eqb}
use Rattle.text.specs.Tests.{cases, and_T, true_T}
use Rattle.text.specs.Class.{Class, Profile, among, control, cr, lf, number, other}
use Rattle.text.specs.Class.Code.{printable}

-- the class of a scalar below 80
abbrev pub ascii_class : ℕ → Class
ascii_class v = cond (printable v) other (cond (eqb v 0x0D) cr (cond (eqb v 0x0A) lf control))

pub record AsciiClasses (P : Profile) : Type 0 where
  pub class : (v : ℕ) → v < 0x80 → number (P.class v) ≡ number (ascii_class v)
  pub width : (v : ℕ) → v < 0x80 → P.width v ≡ cond (printable v) 1 0

-- the number of class LV, LVT, other or Extended_Pictographic: a Hangul syllable, a scalar that no rule names, or a picture
abbrev pub syllable_or_other : ℕ → Bool
syllable_or_other k = eqb k 8 || (eqb k 9 || (eqb k 11 || eqb k 12))

pub record SyllableColumns (P : Profile) : Type 0 where
  pub some : (v : ℕ) → syllable_or_other (number (P.class v)) ≡ true → 1 ≤ P.width v

-- what holds of the four holds of any of them
pub by_syllable {ℓ} : (X : ℕ → Type ℓ) (k : ℕ) → syllable_or_other k ≡ true → X 8 → X 9 → X 11 → X 12 → X k
by_syllable X k h a b c d =
    cases (eqb k 8) (λ e. rw (eqb-true k 8 e) a)
    (λ e. cases (eqb k 9) (λ f. rw (eqb-true k 9 f) b)
    (λ f. cases (eqb k 11) (λ i. rw (eqb-true k 11 i) c)
    (λ i. let g : eqb k 12 ≡ true = rw (e, f, i) at h in rw (eqb-true k 12 g) d)))

pub printable_range : (v : ℕ) → printable v ≡ true → (0x20 ≤ v) × (v ≤ 0x7E)
printable_range v e = let t = and_T (leb 0x20 v) (leb v 0x7E) (true_T e) in (leb→le _ _ t.0, leb→le _ _ t.1)

module _ (P : Profile) (a : AsciiClasses P) (v : ℕ) where
  pub printable_class : printable v ≡ true → number (P.class v) ≡ 11
  unfolding number
  printable_class e = a.class v (omega (arith, (printable_range v e).1)) ∙ rw e refl

  pub printable_columns : printable v ≡ true → P.width v ≡ 1
  printable_columns e = a.width v (omega (arith, (printable_range v e).1)) ∙ rw e refl

  module _ (h : v < 0x80) (e : printable v ≡ false) where
    pub control_class : among (number (P.class v)) (control ∷ cr ∷ lf ∷ []) ≡ true
    unfolding among number
    control_class = rw (a.class v h, e) (cases (eqb v 0x0D) (λ c. rw c refl) (λ c. rw c (cases (eqb v 0x0A) (λ d. rw d refl) (λ d. rw d refl))))

    pub control_columns : P.width v ≡ 0
    control_columns = a.width v h ∙ rw e refl

  -- a control below 20, CR apart
  pub c0_class : v < 0x20 → v ≢ 0x0D → among (number (P.class v)) (lf ∷ control ∷ []) ≡ true
  unfolding among number
  c0_class h n = rw (a.class v (omega arith), lt-leb 0x20 v h, ne_eqb v 0x0D n) (cases (eqb v 0x0A) (λ d. rw d refl) (λ d. rw d refl))
