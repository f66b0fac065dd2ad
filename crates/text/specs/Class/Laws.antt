-- Classes by their numbers, and what laws ask of a profile: controls are of the classes that GB4 and GB5 name, and these, Extend and ZWJ have no width.
use Rattle.std.specs.Prelude.{◌≡◌, refl, ℕ, ◌≤◌, Bool, true, [], ◌∷◌, T}
use Rattle.std.proofs.Common.{arith}
use Rattle.text.specs.Tests.{every, every_one}
use Rattle.text.specs.Class.{Class, Profile, among, class_l, class_lv, class_lvt, class_t, class_v, control, cr, extend, extended_pictographic, is_control, lf, number, other, regional_indicator, zwj}

pub number_le : (c : Class) → number c ≤ 12
unfolding number
number_le cr = omega arith
number_le lf = omega arith
number_le control = omega arith
number_le extend = omega arith
number_le zwj = omega arith
number_le class_l = omega arith
number_le class_v = omega arith
number_le class_t = omega arith
number_le class_lv = omega arith
number_le class_lvt = omega arith
number_le regional_indicator = omega arith
number_le other = omega arith
number_le extended_pictographic = omega arith

pub other_number : number other ≡ 11
unfolding number
other_number = refl

pub number_other : (c : Class) → number c ≡ 11 → c ≡ other
unfolding number
number_other other e = refl
number_other cr e = absurd (omega (arith, e))
number_other lf e = absurd (omega (arith, e))
number_other control e = absurd (omega (arith, e))
number_other extend e = absurd (omega (arith, e))
number_other zwj e = absurd (omega (arith, e))
number_other class_l e = absurd (omega (arith, e))
number_other class_v e = absurd (omega (arith, e))
number_other class_t e = absurd (omega (arith, e))
number_other class_lv e = absurd (omega (arith, e))
number_other class_lvt e = absurd (omega (arith, e))
number_other regional_indicator e = absurd (omega (arith, e))
number_other extended_pictographic e = absurd (omega (arith, e))

-- a test of every class
pub every_class : (f : ℕ → Bool) → T (every f 0 13) → (c : Class) → f (number c) ≡ true
every_class f t c = every_one f 13 0 (number c) t (omega arith) (omega (arith, number_le c))

-- ---- classes

-- at these GB4 and GB5 break
abbrev pub breaks : ℕ → Bool
breaks n = among n (control ∷ cr ∷ lf ∷ [])

-- these join all but the former
abbrev pub extends : ℕ → Bool
extends n = among n (extend ∷ zwj ∷ [])

abbrev pub breaks_or_extends : ℕ → Bool
breaks_or_extends n = among n (cr ∷ lf ∷ control ∷ extend ∷ zwj ∷ [])

-- these join nothing before them, LF behind CR apart
abbrev pub alone_or_lf : ℕ → Bool
alone_or_lf n = among n (cr ∷ lf ∷ control ∷ other ∷ [])

-- ---- what is asked of a profile

pub record ControlClasses (P : Profile) : Type 0 where
  pub breaks : (v : ℕ) → is_control v ≡ true → breaks (number (P.class v)) ≡ true

pub record ZeroWidthClasses (P : Profile) : Type 0 where
  pub none : (v : ℕ) → breaks_or_extends (number (P.class v)) ≡ true → P.width v ≡ 0
