-- Columns: where the spans of a line end.
use Rattle.std.specs.Prelude.{ℕ, ◌+◌, ◌-◌, ◌%◌}
use mathlib.Core.List.{List, [], ◌∷◌}
use Rattle.text.specs.Utf8.{Scalar}
use Rattle.text.specs.Class.{Profile}
use Rattle.text.specs.Width.{width_of}
use Rattle.spans.specs.Spans.{Content, text, control, invalid, unprintable, escape, tab, crlf, lf, Span}
pub mod Wrapping
pub mod OneRow

-- an Unprintable span takes `count` columns
module _ (P : Profile) (count : List Scalar → ℕ) where
  -- the columns of a span that begins at column p
  unfoldable pub span_columns : ℕ → Content → ℕ
  span_columns p (text m s) = width_of P s
  span_columns p (control b) = 4
  span_columns p (invalid b) = 4
  span_columns p (unprintable s) = count s
  span_columns p (escape e) = 0
  span_columns p tab = 8 - p % 8
  span_columns p crlf = 0
  span_columns p lf = 0

  -- the column behind spans from column p on
  unfoldable pub last_column_from : ℕ → List Span → ℕ
  unfolding span_columns
  last_column_from p [] = p
  last_column_from p (s ∷ ss) = last_column_from (p + span_columns p s.content) ss

  -- the line's last column
  abbrev pub last_column : List Span → ℕ
  last_column ss = last_column_from 0 ss
