-- Classes of scalars: UAX #29's Grapheme_Cluster_Break as document 01's profile has it; whitespace.
use Rattle.std.specs.Prelude.{ℕ, ◌-◌, ◌%◌, Bool, false, cond, ◌||◌, List, [], ◌∷◌, eqb}
use Rattle.text.specs.Utf8.{Range, to, within}
pub mod Laws
pub mod Ranges
pub mod Document01
pub mod Ascii
pub mod Code
pub mod Profile01
pub mod Symbols

pub data Class : Type 0 where
  cr lf control extend zwj class_l class_v class_t class_lv class_lvt regional_indicator other extended_pictographic : Class

-- the classes numbered, as code holds them
unfoldable pub number : Class → ℕ
number cr = 0
number lf = 1
number control = 2
number extend = 3
number zwj = 4
number class_l = 5
number class_v = 6
number class_t = 7
number class_lv = 8
number class_lvt = 9
number regional_indicator = 10
number other = 11
number extended_pictographic = 12

-- n is the number of one of these classes
unfoldable pub among : ℕ → List Class → Bool
unfolding number
among n [] = false
among n (c ∷ []) = eqb n (number c)
among n (c ∷ d ∷ ds) = eqb n (number c) || among n (d ∷ ds)

-- what a version of Unicode says of a scalar
pub record Profile : Type 0 where
  pub class : ℕ → Class
  pub width : ℕ → ℕ

-- ---- document 01's classes

unfoldable pub in_any : List Range → ℕ → Bool
in_any [] v = false
in_any (r ∷ []) v = within r v
in_any (r ∷ q ∷ rs) v = within r v || in_any (q ∷ rs) v

unfoldable pub controls : List Range
controls = to 0x00 0x1F ∷ to 0x7F 0x9F ∷ to 0x200B 0x200B ∷ to 0x200E 0x200F ∷ to 0x2028 0x202E ∷ to 0x2060 0x206F ∷ to 0xFEFF 0xFEFF ∷ []

unfoldable pub extends : List Range
extends = to 0x300 0x36F ∷ to 0x483 0x489 ∷ to 0x1DC0 0x1DFF ∷ to 0x200C 0x200C ∷ to 0x20D0 0x20F0 ∷ to 0xFE00 0xFE0F ∷ to 0xFE20 0xFE2F ∷ to 0xE0100 0xE01EF ∷ []

unfoldable pub pictographs : List Range
pictographs = to 0x1F300 0x1F64F ∷ to 0x1F900 0x1F9FF ∷ []

unfoldable pub class01 : ℕ → Class
unfolding in_any controls extends pictographs
class01 v =
    cond (eqb v 0x0D) cr
    (cond (eqb v 0x0A) lf
    (cond (in_any controls v) control
    (cond (in_any extends v) extend
    (cond (eqb v 0x200D) zwj
    (cond (in_any (to 0x1100 0x115F ∷ to 0xA960 0xA97C ∷ []) v) class_l
    (cond (in_any (to 0x1160 0x11A7 ∷ to 0xD7B0 0xD7C6 ∷ []) v) class_v
    (cond (in_any (to 0x11A8 0x11FF ∷ to 0xD7CB 0xD7FB ∷ []) v) class_t
    (cond (within (to 0xAC00 0xD7A3) v) (cond (eqb ((v - 0xAC00) % 28) 0) class_lv class_lvt)
    (cond (within (to 0x1F1E6 0x1F1FF) v) regional_indicator
    (cond (in_any pictographs v) extended_pictographic other))))))))))

-- char::is_whitespace
unfoldable pub spaces : List Range
spaces = to 0x09 0x0D ∷ to 0x20 0x20 ∷ to 0x85 0x85 ∷ to 0xA0 0xA0 ∷ to 0x1680 0x1680 ∷ to 0x2000 0x200A ∷ to 0x2028 0x2029 ∷ to 0x202F 0x202F ∷ to 0x205F 0x205F ∷ to 0x3000 0x3000 ∷ []

unfoldable pub whitespace : ℕ → Bool
unfolding in_any spaces
whitespace = in_any spaces

-- char::is_control
unfoldable pub is_control : ℕ → Bool
unfolding in_any
is_control = in_any (to 0x00 0x1F ∷ to 0x7F 0x9F ∷ [])
