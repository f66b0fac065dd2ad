-- What the contracts of src/change.rt say beyond the definitions.
use Rattle.std.specs.Prelude.{ℕ, ◌+◌, List, [], ◌∷◌}
use Rattle.text.specs.Utf8.{Scalar, ascii}
use Rattle.drawing.specs.Change.{Change, text, flag}
use Rattle.drawing.specs.declared.attributes.Flags.{Flags}

abbrev pub drawn_text : List Scalar → Change
drawn_text s = text s

-- a text of one byte below 80
abbrev pub one_byte : ℕ → Change
one_byte b = text (ascii b ∷ [])

-- the flags' byte
abbrev pub flags_byte : Flags → ℕ
flags_byte f = flag 1 f.italic + flag 2 f.reverse + flag 4 f.invisible + flag 8 f.strike + flag 16 f.overline
