-- The classes that the code holds, by their numbers.
use Rattle.std.specs.Prelude.{◌≡◌, ◌≢◌, ℕ, ◌≤◌, Bool, true, false, ◌&&◌, eqb, refl}
use Rattle.std.proofs.Common.{◌∙◌, arith, sym}
use borrow.Author.Tests.{eqb-false, eqb-true}
use Rattle.text.specs.Class.Code.{class_number}
use Rattle.text.specs.declared.class.Class as code
use Rattle.text.specs.declared.class.Class.TheVariants.{Cr, Lf, Control, Extend, Zwj, L, V, T, Lv, Lvt, RegionalIndicator, Other, ExtendedPictographic}
use Rattle.text.specs.contracts.class.Class.{the_type}
use denote.Enum.Declared.{tag_of}

-- what `==` compares
pub tag_is : (c : code.Class) → tag_of the_type c ≡ class_number c
tag_is Cr = refl
tag_is Lf = refl
tag_is Control = refl
tag_is Extend = refl
tag_is Zwj = refl
tag_is L = refl
tag_is V = refl
tag_is T = refl
tag_is Lv = refl
tag_is Lvt = refl
tag_is RegionalIndicator = refl
tag_is Other = refl
tag_is ExtendedPictographic = refl

pub class_small : (c : code.Class) → class_number c ≤ 12
class_small Cr = omega arith
class_small Lf = omega arith
class_small Control = omega arith
class_small Extend = omega arith
class_small Zwj = omega arith
class_small L = omega arith
class_small V = omega arith
class_small T = omega arith
class_small Lv = omega arith
class_small Lvt = omega arith
class_small RegionalIndicator = omega arith
class_small Other = omega arith
class_small ExtendedPictographic = omega arith

-- ---- `==` at a class

module _ (c : code.Class) (b : Bool) (n : ℕ) (e : b ≡ eqb (tag_of the_type c) n) where
  pub same_number : b ≡ eqb (class_number c) n
  same_number = rw (← tag_is c) e

  pub is_number : b ≡ true → class_number c ≡ n
  is_number t = eqb-true (class_number c) n (sym same_number ∙ t)

  pub no_number : b ≡ false → (class_number c ≢ n)
  no_number t = eqb-false (class_number c) n (sym same_number ∙ t)

pub both : (c d : code.Class) (a b : Bool) (m n : ℕ) (t : Bool) → a ≡ eqb (tag_of the_type c) m → b ≡ eqb (tag_of the_type d) n → (a && b) ≡ t → (eqb (class_number c) m && eqb (class_number d) n) ≡ t
both c d a b m n t e f g = rw (← same_number c a m e, ← same_number d b n f) g
