-- Widths: UAX #11 as document 01's profile has it. A text's width is the sum of its scalars' widths.
use Rattle.std.specs.Prelude.{ℕ, ◌+◌, cond, List, [], ◌∷◌}
use Rattle.text.specs.Utf8.{Range, to, Scalar}
use Rattle.text.specs.Class.{cr, lf, control, extend, zwj, class_v, class_t, number, among, Profile, in_any, class01}
pub mod Symbols
pub mod Laws

unfoldable pub wides : List Range
wides =
    to 0x1100 0x115F ∷ to 0x2E80 0x303E ∷ to 0x3041 0xA4CF ∷ to 0xA960 0xA97C ∷ to 0xAC00 0xD7A3 ∷ to 0xF900 0xFAFF ∷ to 0xFE30 0xFE6F
    ∷ to 0xFF01 0xFF60 ∷ to 0xFFE0 0xFFE6 ∷ to 0x1F300 0x1F64F ∷ to 0x1F900 0x1F9FF ∷ to 0x20000 0x2FFFD ∷ to 0x30000 0x3FFFD ∷ []

unfoldable pub width01 : ℕ → ℕ
unfolding class01 wides in_any among number
width01 v = cond (among (number (class01 v)) (cr ∷ lf ∷ control ∷ extend ∷ zwj ∷ class_v ∷ class_t ∷ [])) 0 (cond (in_any wides v) 2 1)

-- document 01's text profile, version 0
unfoldable pub profile01 : Profile
unfolding class01 width01
profile01 = record { class = class01; width = width01 }

unfoldable pub width_of : Profile → List Scalar → ℕ
width_of P [] = 0
width_of P (c ∷ s) = P.width c.code + width_of P s
