-- The ends of the functions that reach a column and cut a wide cluster there.
use mathlib.Core.Path.{◌≡◌, refl, sym, ap, ◌∙◌}
use Prim.Native.Nat.{ℕ, ◌+◌, ◌-◌, ◌*◌, ◌<◌, ◌≤◌}
use native.Mathlib.Omega.{arith}
use mathlib.Core.Bool.{Bool, true, false}
use mathlib.Core.List.{List}
use lib.ListN.{length, take, drop, length-drop, drop_of_length-le}
use lib.Seq.{length-take-le, sets}
use borrow.Author.Tests.{lt-ltb, le-ltb}
use Rattle.screen.specs.Row.{is_later}
use Rattle.screen.specs.Row.Contracts.{cells_in, cell_in, first_column, laters, same_numbers, CellsReady}
use Rattle.screen.specs.Row.Contracts.Laws.{cells_enough, first_le, laters_le}
use Rattle.screen.specs.Screen.{with_end, larger_of, Reached, cut_left, cut_right}
use Rattle.screen.specs.declared.screen.Screen.{Screen}

-- ---- reach

module _ (row : List ℕ) (t : Screen) (at : ℕ) where
  pub reach_fills : CellsReady row t.end (larger_of t.end at) → t.end < at → CellsReady row t.end at
  reach_fills ready h = rw (lt-ltb t.end at h) at ready

  pub reach_more : (row' : List ℕ) → t.end < at → row' ≡ sets row (3 * t.end) (same_numbers (at - t.end) 0 0 t.color) → Reached row t at row' (with_end t at)
  reach_more row' h e = record { state = ap (with_end t) (rw (lt-ltb t.end at h) refl); numbers = e }

  pub reach_none : at ≤ t.end → Reached row t at row t
  unfolding same_numbers
  reach_none h =
      let k : at - t.end ≡ 0 = omega arith in
      record { state = ap (with_end t) (rw (le-ltb t.end at h) refl); numbers = sym (ap (λ (n : ℕ). sets row (3 * t.end) (same_numbers n 0 0 t.color)) k) }

-- ---- cut_left

module _ (list row : List ℕ) (end at : ℕ) where
  module _ (ready : CellsReady row 0 end) (less : at < end) where
    before : length (take at (cells_in list row)) ≡ at
    before = length-take-le at (cells_in list row) (let n = cells_enough list end row ready.room in omega arith)

    pub left_fills : (first : ℕ) → first ≡ first_column (take at (cells_in list row)) → CellsReady row first at
    left_fills first e = record { order = omega (arith, e, before, first_le (take at (cells_in list row))); room = omega (arith, less, ready.room) }

    module _ (r : Bool) (is : r ≡ is_later (cell_in list row at)) where
      pub left_cut : (first : ℕ) (row' : List ℕ) → r ≡ true → first ≡ first_column (take at (cells_in list row)) → row' ≡ sets row (3 * first) (same_numbers (at - first) 0 0 0) → row' ≡ cut_left list row end at
      unfolding cut_left
      left_cut first row' t e f = f ∙ rw (lt-ltb at end less, sym is ∙ t, e) refl

      pub left_whole : r ≡ false → row ≡ cut_left list row end at
      unfolding cut_left
      left_whole t = rw (lt-ltb at end less, sym is ∙ t) refl

    -- ---- cut_right

    later_room : laters (drop at (take end (cells_in list row))) ≤ end - at
    later_room =
        let n : length (take end (cells_in list row)) ≡ end = length-take-le end (cells_in list row) (cells_enough list end row ready.room) in
        omega (arith, laters_le (drop at (take end (cells_in list row))), length-drop at (take end (cells_in list row)))

    module _ (to : ℕ) (is : to ≡ at + laters (drop at (take end (cells_in list row)))) where
      pub right_fills : CellsReady row at to
      right_fills = record { order = omega (arith, is); room = omega (arith, is, less, later_room, ready.room) }

      pub right_cut : (row' : List ℕ) → row' ≡ sets row (3 * at) (same_numbers (to - at) 0 0 0) → row' ≡ cut_right list row end at
      unfolding cut_right
      right_cut row' e =
          let k : to - at ≡ laters (drop at (take end (cells_in list row))) = omega (arith, is) in
          e ∙ ap (λ (n : ℕ). sets row (3 * at) (same_numbers n 0 0 0)) k

  pub left_past : end ≤ at → row ≡ cut_left list row end at
  unfolding cut_left
  left_past h = rw (le-ltb at end h) refl

  pub right_past : CellsReady row 0 end → end ≤ at → row ≡ cut_right list row end at
  unfolding cut_right laters same_numbers
  right_past ready h =
      let n : length (take end (cells_in list row)) ≤ at = omega (arith, length-take-le end (cells_in list row) (cells_enough list end row ready.room)) in
      rw (drop_of_length-le (take end (cells_in list row)) n) refl
