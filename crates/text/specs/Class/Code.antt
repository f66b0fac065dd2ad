-- What the values of class's code say of the definitions' ones.
use Rattle.std.specs.Prelude.{◌%◌, ◌-◌, ℕ, Bool, ◌&&◌, cond, eqb, leb}
use Rattle.text.specs.Class.{Class, Profile, class_l, class_lv, class_lvt, class_t, class_v}
use Rattle.text.specs.Width.{profile01}
use Rattle.text.specs.declared.class.Profile as code
use Rattle.text.specs.declared.class.Class as declared
use Rattle.text.specs.declared.class.Class.TheVariants as variant

-- document 01's profile, whatever the version: other versions join it as cases
unfoldable pub profile_of : code.Profile → Profile
unfolding profile01
profile_of p = profile01

-- the class of a Hangul syllable, and of U+1100 to U+11FF
abbrev pub syllable : ℕ → Class
syllable v = cond (eqb ((v - 0xAC00) % 28) 0) class_lv class_lvt

abbrev pub jamo : ℕ → Class
jamo v = cond (leb v 0x115F) class_l (cond (leb v 0x11A7) class_v class_t)

-- 20 to 7E
abbrev pub printable : ℕ → Bool
printable v = leb 0x20 v && leb v 0x7E

-- the number of a class that the code holds
abbrev pub class_number : declared.Class → ℕ
class_number variant.Cr = 0
class_number variant.Lf = 1
class_number variant.Control = 2
class_number variant.Extend = 3
class_number variant.Zwj = 4
class_number variant.L = 5
class_number variant.V = 6
class_number variant.T = 7
class_number variant.Lv = 8
class_number variant.Lvt = 9
class_number variant.RegionalIndicator = 10
class_number variant.Other = 11
class_number variant.ExtendedPictographic = 12
