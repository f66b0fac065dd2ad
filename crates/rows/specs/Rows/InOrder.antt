-- A line's rows run end to end from column 0.
use Rattle.std.specs.Prelude.{ℕ}
use mathlib.Core.List.{List}
use Rattle.rows.specs.Rows.{Row, EndToEnd}

-- rows from column 0 to some column
pub record FromZero (rs : List Row) : Type 0 where
  pub end : ℕ
  pub run : EndToEnd 0 end rs
