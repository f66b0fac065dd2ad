-- Tables of scalars: rows of a range of scalars that have a class and a width.
use Rattle.std.specs.Prelude.{ℕ, suc, ◌+◌, ◌*◌, ◌/◌, ◌%◌, Bool, true, false, cond, ◌&&◌, List, [], ◌∷◌, ◌++◌, leb}
use Rattle.unicode_data.specs.Classes.{other}
pub mod Laws
pub mod Parts

-- first scalar, last scalar, the number of the class, the width
pub record Row : Type 0 where
  pub low : ℕ
  pub high : ℕ
  pub class : ℕ
  pub width : ℕ

abbrev pub row : ℕ → ℕ → ℕ → ℕ → Row
row l h c w = record { low = l; high = h; class = c; width = w }

abbrev pub has : Row → ℕ → Bool
has r x = leb r.low x && leb x r.high

-- the row that has a scalar, else one of its own with no class and width 1
unfoldable pub row_of : List Row → ℕ → Row
row_of [] x = row x x other 1
row_of (r ∷ rs) x = let further : Row = row_of rs x in cond (has r x) r further

abbrev pub class_in : List Row → ℕ → ℕ
class_in t x = (row_of t x).class

abbrev pub width_in : List Row → ℕ → ℕ
width_in t x = (row_of t x).width

-- class and width as one number
abbrev pub kind_of : Row → ℕ
kind_of r = 4 * r.class + r.width

abbrev pub kind_in : List Row → ℕ → ℕ
kind_in t x = kind_of (row_of t x)

-- rows from the scalar b on, each after the one before
unfoldable pub ascending_from : ℕ → List Row → Bool
ascending_from b [] = true
ascending_from b (r ∷ rs) = leb b r.low && (leb r.low r.high && ascending_from (suc r.high) rs)

-- ascending and disjoint
unfoldable pub ascending : List Row → Bool
unfolding ascending_from
ascending t = ascending_from 0 t

-- ---- a table as numbers, in parts

-- three numbers a row: first scalar, last scalar, 4 times the class and the width
unfoldable pub rows_of : List ℕ → List Row
rows_of [] = []
rows_of (l ∷ []) = []
rows_of (l ∷ h ∷ []) = []
rows_of (l ∷ h ∷ k ∷ rest) = row l h (k / 4) (k % 4) ∷ rows_of rest

-- one after the other
unfoldable pub joined : List (List Row) → List Row
joined [] = []
joined (t ∷ ts) = t ++ joined ts
