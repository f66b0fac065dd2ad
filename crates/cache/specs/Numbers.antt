-- The calls `cached_rows` and `cached_height` with a span list of their own.
use Rattle.std.specs.Prelude.{◌≡◌, ℕ, List}
use Rattle.text.specs.declared.Answer.{Answer}
use Rattle.spans.specs.Numbers.{ReadNumbers}
use Rattle.rows.specs.Numbers.{RowsNumbers}
use Rattle.cache.specs.Calls.{CachedRows, CachedHeight}

-- the answer is that of a call, n numbers hold its records, the row list its rows, and the array its wraps
pub record CachedRowsNumbers (c : CachedRows) (n : ℕ) (a : Answer) (conv numbers rows wraps : List ℕ) : Type 0 where
  pub answer : RowsNumbers c.answer n a conv numbers rows
  pub left : wraps ≡ c.wraps

pub record CachedHeightNumbers (c : CachedHeight) (n : ℕ) (a : Answer) (conv numbers wraps : List ℕ) : Type 0 where
  pub answer : ReadNumbers c.answer n a conv numbers
  pub left : wraps ≡ c.wraps
