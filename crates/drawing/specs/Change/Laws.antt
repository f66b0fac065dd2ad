-- Changes of which no text is torn. The bytes of attributes: their parts and sizes; a flag byte, read back.
use Rattle.std.specs.Prelude.{◌≡◌, refl, ℕ, ◌/◌, ◌%◌, ◌≤◌, Bool, true, false, ◌&&◌, List, [], ◌∷◌, ◌++◌, length, T, eqb}
use Rattle.std.proofs.Common.{arith, length-append, eqb-true}
use Rattle.buffer.specs.Numbers.{le4}
use Rattle.buffer.specs.Numbers.Laws.{le4_length}
use Rattle.text.specs.Tests.{every, every_one}
use Rattle.spans.specs.declared.sgr.Color.{Color}
use Rattle.spans.specs.declared.sgr.Color.TheVariants.{Default, Palette, Rgb}
use Rattle.drawing.specs.declared.attributes.Attributes.{Attributes}
use Rattle.drawing.specs.declared.attributes.Flags.{Flags}
use Rattle.drawing.specs.Attributes.{flags}
use Rattle.drawing.specs.Change.{Change, text, torn, all_attributes, clear_to_end, cursor_right, whole, color_bytes, flag, flag_byte, attribute_bytes}
use Rattle.drawing.specs.Change.Contracts.{flags_byte}

pub whole_append : (cs ds : List Change) → whole (cs ++ ds) ≡ (whole cs && whole ds)
unfolding whole
whole_append [] ds = refl
whole_append (text s ∷ cs) ds = whole_append cs ds
whole_append (torn ∷ cs) ds = refl
whole_append (all_attributes a ∷ cs) ds = whole_append cs ds
whole_append (clear_to_end c ∷ cs) ds = whole_append cs ds
whole_append (cursor_right ∷ cs) ds = whole_append cs ds

pub color_length : (c : Color) → length (color_bytes c) ≡ 4
unfolding color_bytes
color_length Default = refl
color_length (Palette i) = refl
color_length (Rgb r g b) = refl

pub attribute_bytes_law : (a : Attributes) → attribute_bytes a
    ≡ (a.font.intensity ∷ a.font.underline ∷ a.font.blink ∷ flags_byte a.flags ∷ []) ++ (color_bytes a.colors.foreground ++ (color_bytes a.colors.background ++ (color_bytes a.colors.underline ++ (le4 a.link.place.0 ++ (le4 a.link.len ++ (a.font.alignment ∷ []))))))
unfolding attribute_bytes flag_byte
attribute_bytes_law a = refl

pub attribute_length : (a : Attributes) → length (attribute_bytes a) ≡ 25
attribute_length a = rw attribute_bytes_law (simp (length-append, color_length, le4_length))

-- ---- the flag byte

pub flags_most : (f : Flags) → flags_byte f ≤ 31
flags_most f = omega (arith, most 1 f.italic, most 2 f.reverse, most 4 f.invisible, most 8 f.strike, most 16 f.overline)
  where
    most : (n : ℕ) (b : Bool) → flag n b ≤ n
    most n true = omega arith
    most n false = omega arith

-- the flags of a flag byte
abbrev pub flags_of : ℕ → Flags
flags_of f = flags (eqb (f / 1 % 2) 1) (eqb (f / 2 % 2) 1) (eqb (f / 4 % 2) 1) (eqb (f / 8 % 2) 1) (eqb (f / 16 % 2) 1)

each_flags : T (every (λ (f : ℕ). eqb (flags_byte (flags_of f)) f) 0 32)
unfolding every
each_flags = tt

pub flags_read : (f : ℕ) → f ≤ 31 → flags_byte (flags_of f) ≡ f
flags_read f h = eqb-true _ f (every_one (λ (f : ℕ). eqb (flags_byte (flags_of f)) f) 32 0 f each_flags (omega arith) (omega arith))
