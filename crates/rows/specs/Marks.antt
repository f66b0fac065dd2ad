-- The columns of marks.
use Rattle.std.specs.Prelude.{◌≡◌, ℕ, ◌+◌, ◌*◌, ◌≤◌, cond, List, [], ◌∷◌, length, ltb}
use Rattle.text.specs.Utf8.{Scalar}
use Rattle.text.specs.TextParts.{text_at}
pub mod Laws

-- of a scalar's mark: `<U+`, four digits or more, `>`
unfoldable pub mark_columns : ℕ → ℕ
mark_columns v = cond (ltb v 0x10000) 8 (cond (ltb v 0x100000) 9 10)

-- of an Unprintable span: a mark for each of its scalars
unfoldable pub drawn_columns : List Scalar → ℕ
unfolding mark_columns
drawn_columns [] = 0
drawn_columns (c ∷ s) = mark_columns c.code + drawn_columns s

-- what `drawn_columns` gives for a text
pub record DrawnColumns (text : List ℕ) (n : ℕ) : Type 0 where
  pub drawn : n ≡ drawn_columns (text_at text 0)
  pub small : n ≤ 10 * length text
