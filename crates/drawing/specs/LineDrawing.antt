-- What the contracts of src/line_drawing.rt say.
use Rattle.std.specs.Prelude.{ℕ, ◌≤◌, Bool, false, cond, ◌||◌, List, [], ◌∷◌}
use Rattle.text.specs.Utf8.{Scalar, to, within}
use Rattle.drawing.specs.Marks.{line_drawn}

-- a text while line drawing is on or off
abbrev pub shown_text : Bool → List Scalar → List Scalar
shown_text d x = cond d (line_drawn x) x

-- a scalar that line drawing replaces
pub record Replaceable (c : ℕ) : Type 0 where
  pub low : 0x5F ≤ c
  pub high : c ≤ 0x7E

-- some byte is one that line drawing replaces
unfoldable pub has_replacements : List ℕ → Bool
has_replacements [] = false
has_replacements (b ∷ s) = within (to 0x5F 0x7E) b || has_replacements s
