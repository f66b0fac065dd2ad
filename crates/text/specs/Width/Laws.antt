-- A text's width: of its parts, and by its bytes.
use Rattle.std.specs.Prelude.{◌≡◌, refl, ℕ, ◌+◌, ◌*◌, ◌≤◌, List, [], ◌∷◌, ◌++◌, length}
use Rattle.std.proofs.Common.{arith}
use Rattle.text.specs.Tests.{cases}
use Rattle.text.specs.Each.{All, all_nil, all_cons}
use Rattle.text.specs.Utf8.{Scalar}
use Rattle.text.specs.Utf8.Valid.{Valid}
use Rattle.text.specs.Utf8.Code.{size}
use Rattle.text.specs.Class.{cr, lf, control, extend, zwj, class_v, class_t, number, among, Profile, in_any, class01}
use Rattle.text.specs.Class.Code.{profile_of}
use Rattle.text.specs.Width.{wides, width01, profile01, width_of}
use Rattle.text.specs.declared.class.Profile as code

pub width_le : (v : ℕ) → width01 v ≤ 2
unfolding width01
width_le v = cases (among (number (class01 v)) (cr ∷ lf ∷ control ∷ extend ∷ zwj ∷ class_v ∷ class_t ∷ [])) (λ e. rw e (omega arith)) (λ e. rw e (cases (in_any wides v) (λ f. rw f (omega arith)) (λ f. rw f (omega arith))))

pub width_two : (f : code.Profile) (v x : ℕ) → x ≡ (profile_of f).width v → x ≤ 2
unfolding profile_of profile01
width_two f v x e = rw e (width_le v)

pub width_nil : (P : Profile) → width_of P [] ≡ 0
unfolding width_of
width_nil P = refl

pub width_cons : (P : Profile) (c : Scalar) (s : List Scalar) → width_of P (c ∷ s) ≡ P.width c.code + width_of P s
unfolding width_of
width_cons P c s = refl

pub width_append : (P : Profile) (a b : List Scalar) → width_of P (a ++ b) ≡ width_of P a + width_of P b
unfolding width_of
width_append P [] b = omega arith
width_append P (c ∷ a) b = omega (arith, width_append P a b)

-- two columns a scalar at most
pub width_few : (P : Profile) → ((v : ℕ) → P.width v ≤ 2) → (s : List Scalar) → width_of P s ≤ 2 * length s
unfolding width_of
width_few P narrow [] = omega arith
width_few P narrow (c ∷ s) = omega (arith, narrow c.code, width_few P narrow s)

-- two columns a byte at most
pub width_size : (p : code.Profile) {s : List Scalar} → All Valid s → width_of (profile_of p) s ≤ 2 * size s
unfolding width_of size profile_of profile01
width_size p all_nil = omega arith
width_size p (all_cons {a = c} {s = s} h e) = omega (arith, h.some, width_le c.code, width_size p e)
