-- Document 01's profile has what the laws ask of one.
use Rattle.std.specs.Prelude.{◌≡◌, refl, ℕ, ◌<◌, Bool, true, false, cond, not, ◌&&◌, ◌||◌, [], ◌∷◌, T, eqb}
use Rattle.std.proofs.Common.{sym, ◌∙◌, arith, true≢false, eqb→eq}
use Rattle.text.specs.Tests.{and_T, cases, every, every_one, true_T}
use Rattle.text.specs.Utf8.{to, within}
use Rattle.text.specs.Class.{among, class01, class_t, class_v, control, controls, cr, extend, in_any, is_control, lf, number, zwj}
use Rattle.text.specs.Class.Laws.{ControlClasses, ZeroWidthClasses, breaks, breaks_or_extends, every_class}
use Rattle.text.specs.Class.Ascii.{AsciiClasses, SyllableColumns, ascii_class, by_syllable, syllable_or_other}
use Rattle.text.specs.Width.{profile01, wides, width01}
use Rattle.text.specs.Class.Code.{printable, profile_of}
use Rattle.text.specs.declared.class.Profile as code

pub profile_is : (p : code.Profile) → profile_of p ≡ profile01
unfolding profile_of
profile_is p = refl

ascii_test : ℕ → Bool
unfolding number class01 width01
ascii_test v = eqb (number (class01 v)) (number (ascii_class v)) && eqb (width01 v) (cond (printable v) 1 0)

ascii_all : T (every ascii_test 0 128)
unfolding every ascii_test
ascii_all = tt

ascii_both : (v : ℕ) → v < 0x80 → T (eqb (number (class01 v)) (number (ascii_class v))) × T (eqb (width01 v) (cond (printable v) 1 0))
unfolding ascii_test
ascii_both v h = and_T (eqb (number (class01 v)) (number (ascii_class v))) (eqb (width01 v) (cond (printable v) 1 0)) (true_T (every_one ascii_test 128 0 v ascii_all (omega arith) (omega arith)))

pub ascii_classes : (p : code.Profile) → AsciiClasses (profile_of p)
unfolding profile_of profile01
ascii_classes p = record { class = λ v h. eqb→eq _ _ (ascii_both v h).0; width = λ v h. eqb→eq _ _ (ascii_both v h).1 }

wide_class : (k : ℕ) → syllable_or_other k ≡ true → among k (cr ∷ lf ∷ control ∷ extend ∷ zwj ∷ class_v ∷ class_t ∷ []) ≡ false
unfolding among number
wide_class k h = by_syllable (λ (n : ℕ). among n (cr ∷ lf ∷ control ∷ extend ∷ zwj ∷ class_v ∷ class_t ∷ []) ≡ false) k h refl refl refl refl

pub syllable_columns : (p : code.Profile) → SyllableColumns (profile_of p)
unfolding profile_of profile01 width01
syllable_columns p = record { some = λ v h. rw (wide_class (number (class01 v)) h) (cases (in_any wides v) (λ w. rw w (omega arith)) (λ w. rw w (omega arith))) }

control_breaks : (v : ℕ) → is_control v ≡ true → breaks (number (class01 v)) ≡ true
unfolding class01 is_control in_any controls among number
control_breaks v h = cases (eqb v 0x0D) (λ e. rw e refl) (λ e. cases (eqb v 0x0A) (λ f. rw (e, f) refl) (λ f. cases (within (to 0x00 0x1F) v) (λ a. rw (e, f, a) refl) (λ a. cases (within (to 0x7F 0x9F) v) (λ b. rw (e, f, a, b) refl) (λ b. absurd (true≢false (sym h ∙ rw (a, b) refl))))))

pub control_classes : (p : code.Profile) → ControlClasses (profile_of p)
unfolding profile_of profile01
control_classes p = record { breaks = control_breaks }

pub zero_width_classes : (p : code.Profile) → ZeroWidthClasses (profile_of p)
unfolding profile_of profile01 width01 among number every
zero_width_classes p = record {
  none = λ v e. rw (rw e at (every_class (λ n. not (breaks_or_extends n) || among n (cr ∷ lf ∷ control ∷ extend ∷ zwj ∷ class_v ∷ class_t ∷ [])) tt (class01 v)));
}
