-- What the contracts of src/row.rt say: the cells that a row's numbers stand for.
use Rattle.std.specs.Prelude.{ℕ, zero, suc, ◌+◌, ◌-◌, ◌*◌, ◌<◌, ◌≤◌, cond, List, [], ◌∷◌, length, take, drop, get_or, set, eqb}
use Rattle.screen.specs.WellFormed.{body_size}
use Rattle.screen.specs.Row.{Cell, plain, with_background, blank, cell, is_later, all_later}
pub mod Laws

-- the part of a list that begins at a place
abbrev pub part : List ℕ → ℕ → ℕ → List ℕ
part list at n = take n (drop at list)

-- the attribute body at a place, and a blank with the background at a place; 0 is default
abbrev pub body_at : List ℕ → ℕ → List ℕ
body_at list at = cond (eqb at 0) plain (part list at body_size)

abbrev pub blank_at : List ℕ → ℕ → Cell
blank_at list at = blank (cond (eqb at 0) plain (with_background (part list at 4)))

-- a cell: the place of its cluster, 0 for a blank; the cluster's length; the place of its body or background
unfoldable pub cell_of : List ℕ → ℕ → ℕ → ℕ → Cell
cell_of list at n b = cond (eqb at 0) (blank_at list b) (cell (part list at n) (body_at list b))

unfoldable pub cells_in : List ℕ → List ℕ → List Cell
unfolding cell_of
cells_in list [] = []
cells_in list (at ∷ []) = []
cells_in list (at ∷ n ∷ []) = []
cells_in list (at ∷ n ∷ b ∷ row) = cell_of list at n b ∷ cells_in list row

abbrev pub cell_in : List ℕ → List ℕ → ℕ → Cell
cell_in list row i = get_or (cells_in list row) i (blank plain)

-- ---- the cells of a wide cluster

-- the first column of the cluster that cells end in
unfoldable pub first_column : List Cell → ℕ
unfolding all_later
first_column [] = 0
first_column (c ∷ cs) = let further : ℕ = suc (first_column cs) in cond (all_later cs) 0 further

-- how many later cells stand first
unfoldable pub laters : List Cell → ℕ
laters [] = 0
laters (c ∷ cs) = let further : ℕ = suc (laters cs) in cond (is_later c) further 0

-- ---- numbers written

abbrev pub set_cell : List ℕ → (i at n b : ℕ) → List ℕ
set_cell row i at n b = set (set (set row (3 * i) at) (3 * i + 1) n) (3 * i + 2) b

-- so many cells alike
unfoldable pub same_numbers : ℕ → (at n b : ℕ) → List ℕ
same_numbers zero at n b = []
same_numbers (suc k) at n b = at ∷ n ∷ b ∷ same_numbers k at n b

abbrev pub cluster_numbers : (width at n b : ℕ) → List ℕ
cluster_numbers width at n b = at ∷ n ∷ b ∷ same_numbers (width - 1) at 0 b

-- ---- preconditions

abbrev pub CellReady : List ℕ → ℕ → Type 0
CellReady row i = 3 * i + 2 < length row

pub record CellsReady (row : List ℕ) (from to : ℕ) : Type 0 where
  pub order : from ≤ to
  pub room : 3 * to ≤ length row

pub record ClusterReady (row : List ℕ) (from to : ℕ) : Type 0 where
  pub order : from < to
  pub room : 3 * to ≤ length row
