-- The calls `rows`, `height` and `narrowest` with a span list of their own.
use Rattle.std.specs.Prelude.{◌≡◌, ℕ, List}
use Rattle.text.specs.declared.Answer.{Answer}
use Rattle.spans.specs.Calls.{Read}
use Rattle.spans.specs.Numbers.{ReadNumbers}
use Rattle.rows.specs.Calls.{Wrapped}
use Rattle.rows.specs.Narrowest.{Narrowed}
use Rattle.rows.specs.declared.WidthAnswer.{WidthAnswer}
pub mod Laws

-- what `rows` leaves besides the rows
abbrev pub read_of : Wrapped → Read
read_of c = record { number = c.number; count = c.count; conv = c.conv; spans = c.spans }

-- the answer is that of a call, n numbers hold its records, and the row list its rows
pub record RowsNumbers (c : Wrapped) (n : ℕ) (a : Answer) (conv numbers rows : List ℕ) : Type 0 where
  pub read : ReadNumbers (read_of c) n a conv numbers
  pub pairs : rows ≡ c.rows

-- what `narrowest` returns and leaves besides the widths tried
abbrev pub read_in : Narrowed → Read
read_in c = record { number = c.number; count = c.count; conv = c.conv; spans = c.spans }

-- the answer is that of a call, and n numbers hold its records
pub record NarrowestNumbers (c : Narrowed) (n : ℕ) (a : WidthAnswer) (conv numbers : List ℕ) : Type 0 where
  pub read : ReadNumbers (read_in c) n (record { number = a.number; count = a.count }) conv numbers
  pub tried : a.tried ≡ c.tried
