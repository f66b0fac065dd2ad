-- Rows: the ranges of equal kinds, ascending, without those of kind 45 (no class, width 1, no conjunct value). A row ends before `end`.
use Rattle.std.specs.Prelude.{ℕ, suc, ◌+◌, cond, List, [], ◌∷◌, length, drop, ◌==◌, nat_lt, slice_index, Option, Some, None}
use Rattle.unicode_io.specs.declared.rows.Row.{Row}
pub mod Laws

abbrev pub row : ℕ → ℕ → ℕ → Row
row low end kind = record { low = low; end = end; kind = kind }

-- the kinds of the scalars from a place on, in runs of equal ones
unfoldable pub grown : ℕ → ℕ → List Row → List Row
grown at k [] = row at (suc at) k ∷ []
grown at k (r ∷ rs) = cond (r.kind == k) (row at r.end k ∷ rs) (row at (suc at) k ∷ r ∷ rs)

unfoldable pub runs : ℕ → List ℕ → List Row
unfolding grown
runs at [] = []
runs at (k ∷ ks) = grown at k (runs (suc at) ks)

unfoldable pub shown : List Row → List Row
shown [] = []
shown (r ∷ rs) = let others : List Row = shown rs in cond (r.kind == 45) others (r ∷ others)

unfoldable pub rows_from : ℕ → List ℕ → List Row
unfolding runs shown
rows_from at kinds = shown (runs at kinds)

-- ---- one row after the other

-- how many in front are k
unfoldable pub leading : ℕ → List ℕ → ℕ
leading k [] = 0
leading k (x ∷ xs) = let more : ℕ = suc (leading k xs) in cond (x == k) more 0

-- the first row from a place on; where there is none, one that is empty
unfoldable pub row_at : ℕ → List ℕ → Row
unfolding leading
row_at low kinds = cond (nat_lt low (length kinds)) (row low (low + leading (slice_index kinds low) (drop low kinds)) (slice_index kinds low)) (row low low 45)

unfoldable pub next_row : ℕ → List ℕ → Row
unfolding leading row_at
next_row at kinds = row_at (at + leading 45 (drop at kinds)) kinds

-- what the code answers: no row where it is empty
abbrev pub row_in : Row → Option Row
row_in r = cond (r.low == r.end) None (Some r)
