-- Document 02, U14: in mode 1, without tabs and at a width no unit exceeds, no other list of rows is shorter.
use Rattle.std.specs.Prelude.{◌≢◌, ℕ, ◌+◌, ◌-◌, ◌≤◌, length}
use mathlib.Core.List.{List, [], ◌∷◌, ◌++◌}
use Rattle.text.specs.Each.{All}
use Rattle.text.specs.Utf8.{Scalar}
use Rattle.text.specs.Class.{Profile}
use Rattle.text.specs.Cluster.{clusters}
use Rattle.spans.specs.Spans.{Content, text, control, invalid, unprintable, escape, tab, crlf, lf, Span}
use Rattle.rows.specs.Rows.{Row, grapheme_boundary, eight, rows, EndToEnd}
use Rattle.columns.specs.Columns.Wrapping.{total, widths}
pub mod Greedy
pub mod Examples

-- an Unprintable span counts `count`
module _ (P : Profile) (count : List Scalar → ℕ) where
  -- the columns of each unit, cluster, mark or Unprintable span, of a span that is no tab
  unfoldable pub units_of : Content → List ℕ
  unfolding clusters
  units_of (text m s) = widths P (clusters P s)
  units_of (control b) = 4 ∷ []
  units_of (invalid b) = 4 ∷ []
  units_of (unprintable s) = count s ∷ []
  units_of (escape e) = []
  units_of tab = []
  units_of crlf = []
  units_of lf = []

  unfoldable pub units : List Span → List ℕ
  unfolding units_of
  units [] = []
  units (s ∷ ss) = units_of s.content ++ units ss

-- a column between units, before the first and behind the last included
pub data Between : ℕ → List ℕ → Type 0 where
  front : {us : List ℕ} → Between 0 us
  behind : {u c : ℕ} {us : List ℕ} → Between c us → Between (u + c) (u ∷ us)

-- one or more rows from column 0 to the last column, cut only between units, none wider than the width
pub record Cutting (width : ℕ) (us : List ℕ) (rs : List Row) : Type 0 where
  pub run : EndToEnd 0 (total us) rs
  pub cuts : All (λ (r : Row). Between r.end us) rs
  pub narrow : All (λ (r : Row). r.end - r.start ≤ width) rs

-- rows that are such a list, and every other such list has at least as many
pub record Fewest (width : ℕ) (us : List ℕ) (own : List Row) : Type 0 where
  pub one : Cutting width us own
  pub least : (rs : List Row) → Cutting width us rs → length own ≤ length rs

abbrev pub FewestRows : Profile → Type 0
FewestRows P =
    (width : ℕ) (ss : List Span) → All (λ (s : Span). s.content ≢ tab) ss → All (λ (u : ℕ). u ≤ width) (units P eight ss) → Fewest width (units P eight ss) (rows P width grapheme_boundary ss)
