-- What the table of Unicode 15.0 says of some scalars, computed.
use Rattle.std.specs.Prelude.{◌≡◌, refl, [], ◌∷◌, map}
use Rattle.unicode_data.specs.Classes.{class_l, class_lv, class_lvt, class_v, control, extend, extended_pictographic, other, prepend, regional_indicator, spacing_mark}
use Rattle.unicode_data.specs.Table.{row, row_of}
use Rattle.unicode_data.specs.Table150.{table150}

pub rows_150 : map (row_of table150)
    (0x41 ∷ 0xA9 ∷ 0xAD ∷ 0x301 ∷ 0x600 ∷ 0x903 ∷ 0x1100 ∷ 0x115F ∷ 0x1160 ∷ 0x302E ∷ 0xAC00 ∷ 0xAC01 ∷ 0x16FF0 ∷ 0x1F1E6 ∷ 0x1F468 ∷ 0x10FFFF ∷ [])
    ≡ (row 0x41 0x41 other 1
    ∷ row 0xA9 0xA9 extended_pictographic 1
    ∷ row 0xAD 0xAD control 0
    ∷ row 0x300 0x36F extend 0
    ∷ row 0x600 0x605 prepend 1
    ∷ row 0x903 0x903 spacing_mark 1
    ∷ row 0x1100 0x115F class_l 2
    ∷ row 0x1100 0x115F class_l 2
    ∷ row 0x1160 0x11A7 class_v 0
    ∷ row 0x302A 0x302F extend 0
    ∷ row 0xAC00 0xAC00 class_lv 2
    ∷ row 0xAC01 0xAC1B class_lvt 2
    ∷ row 0x16FF0 0x16FF1 spacing_mark 2
    ∷ row 0x1F1E6 0x1F1FF regional_indicator 1
    ∷ row 0x1F442 0x1F4FC extended_pictographic 2
    ∷ row 0x10FFFF 0x10FFFF other 1
    ∷ [])
unfolding row_of table150
rows_150 = refl
