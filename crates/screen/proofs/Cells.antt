-- The ends of the functions of src/row.rt.
use mathlib.Core.Path.{◌≡◌, refl, sym, ap, ◌∙◌}
use Prim.Native.Nat.{min, ℕ, suc, ◌+◌, ◌-◌, ◌*◌, ◌<◌, ◌≤◌}
use native.Mathlib.Numerals.{add-one}
use native.Mathlib.Omega.{arith}
use mathlib.Core.Bool.{Bool, true, false}
use mathlib.Core.Logic.{◌≢◌}
use mathlib.Core.List.{List}
use lib.ListN.{length-take, length, take, drop, get_or, length-drop, drop_of_length-le}
use lib.Seq.{take-nil, length-take-le, get_or-take, drop-length, sets}
use lib.Dec.{eqb}
use borrow.Author.Tests.{eq-eqb, ne_eqb}
use Rattle.buffer.specs.Numbers.{smaller_of}
use Rattle.screen.specs.Row.{plain, blank, is_later, all_later}
use Rattle.screen.specs.Row.Contracts.{part, cell_of, cells_in, cell_in, first_column, laters, set_cell, same_numbers, cluster_numbers, CellReady, CellsReady}
use Rattle.screen.specs.Row.Contracts.Laws.{cells_enough, cell_at, same_next, first_found, first_none, later_more, laters_more, laters_none}

-- ---- part_len

pub no_part : (list : List ℕ) (at n : ℕ) → length list ≤ at → 0 ≡ length (part list at n)
no_part list at n h = rw (drop_of_length-le list h, take-nil {A = ℕ} n) refl

pub part_size_law : (list : List ℕ) (at n r : ℕ) → r ≡ smaller_of n (length list - at) → r ≡ length (part list at n)
part_size_law list at n r e = e ∙ sym (length-take n (drop at list) ∙ ap (λ (m : ℕ). min n m) (length-drop at list))

-- ---- is_later

module _ (list row : List ℕ) (i : ℕ) (ready : CellReady row i) where
  pub blank_cell : get_or row (3 * i) 0 ≡ 0 → false ≡ is_later (cell_in list row i)
  unfolding cell_of
  blank_cell z = sym (ap is_later (cell_at list i row ready) ∙ rw (eq-eqb (get_or row (3 * i) 0) 0 z) refl)

  pub cluster_cell : (k : ℕ) → (get_or row (3 * i) 0 ≢ 0) → k ≡ length (part list (get_or row (3 * i) 0) (get_or row (3 * i + 1) 0)) → eqb k 0 ≡ is_later (cell_in list row i)
  unfolding cell_of
  cluster_cell k z h = rw h (sym (ap is_later (cell_at list i row ready) ∙ rw (ne_eqb (get_or row (3 * i) 0) 0 z) refl))

-- ---- first_column

pub record FirstColumn (list row : List ℕ) (at i : ℕ) : Type 0 where
  pub order : i ≤ at
  pub later : all_later (drop i (take at (cells_in list row))) ≡ true

module _ (list row : List ℕ) (at : ℕ) (ready : CellsReady row 0 at) where
  before_length : length (take at (cells_in list row)) ≡ at
  before_length = length-take-le at (cells_in list row) (cells_enough list at row ready.room)

  pub first_begin : FirstColumn list row at at
  unfolding all_later
  first_begin = record { order = omega arith; later = ap (λ (n : ℕ). all_later (drop n (take at (cells_in list row)))) (sym before_length) ∙ ap all_later (drop-length (take at (cells_in list row))) }

  module _ (i : ℕ) (inv : FirstColumn list row at i) (some : 0 < i) (r : Bool) (is : r ≡ is_later (cell_in list row (i - 1))) where
    cell_before : is_later (get_or (take at (cells_in list row)) (i - 1) (blank plain)) ≡ r
    cell_before = ap is_later (get_or-take at (cells_in list row) (i - 1) (blank plain) (omega (arith, inv.order))) ∙ sym is

    behind : all_later (drop (suc (i - 1)) (take at (cells_in list row))) ≡ true
    behind = let k : suc (i - 1) ≡ i = omega arith in rw k inv.later

    pub first_turn : r ≡ true → FirstColumn list row at (i - 1)
    first_turn t = record { order = omega (arith, inv.order); later = later_more (take at (cells_in list row)) (i - 1) (omega (arith, before_length, inv.order)) behind (cell_before ∙ t) }

    pub first_here : r ≡ false → i - 1 ≡ first_column (take at (cells_in list row))
    first_here t = first_found (take at (cells_in list row)) (i - 1) (omega (arith, before_length, inv.order)) behind (cell_before ∙ t)

  pub first_zero : (i : ℕ) → FirstColumn list row at i → i ≤ 0 → 0 ≡ first_column (take at (cells_in list row))
  first_zero i inv z = let k : i ≡ 0 = omega arith in first_none (take at (cells_in list row)) (rw k at inv.later)

-- ---- behind_later

pub record BehindLater (list row : List ℕ) (from end i : ℕ) : Type 0 where
  pub order : i ≤ end
  pub same : i + laters (drop i (take end (cells_in list row))) ≡ from + laters (drop from (take end (cells_in list row)))

pub later_begin : (list row : List ℕ) (from end : ℕ) → CellsReady row from end → BehindLater list row from end from
later_begin list row from end ready = record { order = ready.order; same = refl }

module _ (list row : List ℕ) (from end : ℕ) (ready : CellsReady row from end) (i : ℕ) (inv : BehindLater list row from end i) where
  pub later_end : end ≤ i → i ≡ from + laters (drop from (take end (cells_in list row)))
  unfolding laters
  later_end h =
      let n : length (take end (cells_in list row)) ≤ i = omega (arith, length-take-le end (cells_in list row) (cells_enough list end row ready.room)) in
      let z : i + laters (drop i (take end (cells_in list row))) ≡ i = rw (drop_of_length-le (take end (cells_in list row)) n) (omega arith) in
      sym z ∙ inv.same

  module _ (less : i < end) (r : Bool) (is : r ≡ is_later (cell_in list row i)) where
    cell_here : is_later (get_or (take end (cells_in list row)) i (blank plain)) ≡ r
    cell_here = ap is_later (get_or-take end (cells_in list row) i (blank plain) less) ∙ sym is

    inside : i < length (take end (cells_in list row))
    inside = omega (arith, less, length-take-le end (cells_in list row) (cells_enough list end row ready.room))

    pub later_turn : r ≡ true → BehindLater list row from end (i + 1)
    later_turn t = record { order = omega (arith, less); same = rw (add-one i) (laters_more (take end (cells_in list row)) i inside (cell_here ∙ t) ∙ inv.same) }

    pub later_stop : r ≡ false → i ≡ from + laters (drop from (take end (cells_in list row)))
    later_stop t = laters_none (take end (cells_in list row)) i inside (cell_here ∙ t) ∙ inv.same

-- ---- fill

pub record Fill (row₀ : List ℕ) (from to a n b : ℕ) (row : List ℕ) (i : ℕ) : Type 0 where
  pub order : i ≤ to
  pub long : length row ≡ length row₀
  pub work : sets row (3 * i) (same_numbers (to - i) a n b) ≡ sets row₀ (3 * from) (same_numbers (to - from) a n b)

pub fill_begin : (row : List ℕ) (from to a n b : ℕ) → CellsReady row from to → Fill row from to a n b row from
fill_begin row from to a n b ready = record { order = ready.order; long = refl; work = refl }

module _ (row₀ : List ℕ) (from to a n b : ℕ) (row : List ℕ) (i : ℕ) (inv : Fill row₀ from to a n b row i) where
  pub fill_turn : (row' : List ℕ) → i < to → length row' ≡ length row → row' ≡ set_cell row i a n b → Fill row₀ from to a n b row' (i + 1)
  unfolding same_numbers
  fill_turn row' h l e =
      let k : suc (to - (i + 1)) ≡ to - i = omega arith in
      record {
        order = omega (arith, h);
        long = l ∙ inv.long;
        work = rw e (same_next row i a n b (same_numbers (to - (i + 1)) a n b)) ∙ ap (λ (m : ℕ). sets row (3 * i) (same_numbers m a n b)) k ∙ inv.work;
      }

  pub fill_end : to ≤ i → row ≡ sets row₀ (3 * from) (same_numbers (to - from) a n b)
  unfolding same_numbers
  fill_end h = let k : to - i ≡ 0 = omega arith in sym (ap (λ (m : ℕ). sets row (3 * i) (same_numbers m a n b)) k) ∙ inv.work

-- ---- set_cluster

pub cluster_set : (row row₁ row₂ : List ℕ) (from to a n b : ℕ) → row₁ ≡ set_cell row from a n b → row₂ ≡ sets row₁ (3 * (from + 1)) (same_numbers (to - (from + 1)) a 0 b)
    → row₂ ≡ sets row (3 * from) (cluster_numbers (to - from) a n b)
cluster_set row row₁ row₂ from to a n b e f =
    let k : to - (from + 1) ≡ to - from - 1 = omega arith in
    f ∙ rw (e, k) (same_next row from a n b (same_numbers (to - from - 1) a 0 b))
