-- A cluster written into a row's numbers is written into its cells.
use mathlib.Core.Path.{◌≡◌, refl, sym, ap, ap₂, ◌∙◌}
use Prim.Native.Nat.{ℕ, ◌+◌, ◌-◌, ◌*◌, ◌<◌, ◌≤◌}
use native.Mathlib.Omega.{arith}
use mathlib.Core.Bool.{false, not, cond, ◌&&◌}
use mathlib.Core.List.{List, [], ◌∷◌, ◌++◌, append_assoc, append-nil}
use lib.ListN.{length, take, drop, get_or, replicate, length-append, length-drop, length-replicate, take-append-drop, replicate-append-replicate}
use lib.Seq.{length-take-le, take-take, take_at, drop_at, drop-drop, drop-append-add, take-append-le, length-sets, sets}
use lib.Dec.{eqb, ltb}
use borrow.Author.Tests.{ne_eqb, ltb-true, ltb-false}
use Rattle.text.specs.Tests.{cases}
use Rattle.screen.specs.Row.{Cell, plain, blank, cell, cluster_cells, is_later, lost_end, put, screen, write}
use Rattle.screen.specs.Row.Laws.{lost_end_length}
use Rattle.screen.specs.Row.Contracts.{part, body_at, blank_at, cell_of, cells_in, cell_in, first_column, laters, same_numbers, cluster_numbers, CellsReady}
use Rattle.screen.specs.Row.Contracts.Laws.{cells_enough, cells_written, cells_same, same_length, first_le, lost_end_law, laters_le}
use Rattle.screen.specs.Row.Put.{drop_take, put_cells}
use Rattle.screen.specs.Screen.{with_at, with_end, larger_of, cursor_of, reached, Reached, cut_left, cut_right, row_of, screen_at, WriteReady, Moved}
use Rattle.screen.specs.declared.screen.Screen as code

pub larger_is : (a b : ℕ) → larger_of a b ≡ a + (b - a)
larger_is a b = cases (ltb a b) (λ e. rw e (let h = ltb-true a b e in omega arith)) (λ e. rw e (let h = ltb-false a b e in omega arith))

module _ (list : List ℕ) (width : ℕ) where
  -- ---- reach

  module _ (row : List ℕ) (t : code.Screen) (at : ℕ) (end : t.end ≤ width) (fits : at ≤ width) (room : 3 * width ≤ length row) where
    reached_cells : cells_in list (reached row t at) ≡ take t.end (cells_in list row) ++ replicate (at - t.end) (blank_at list t.color) ++ drop (t.end + (at - t.end)) (cells_in list row)
    unfolding cell_of
    reached_cells =
        cells_written list (at - t.end) t.end row (same_numbers (at - t.end) 0 0 t.color) (same_length (at - t.end) 0 0 t.color) (omega (arith, end, fits, room))
        ∙ ap (λ (cs : List Cell). take t.end (cells_in list row) ++ cs ++ drop (t.end + (at - t.end)) (cells_in list row)) (cells_same list (at - t.end) 0 0 t.color)

    pub reached_row : row_of list width (reached row t at) (with_end t (larger_of t.end at)) ≡ row_of list width row t
    unfolding row_of
    reached_row =
        let A : List Cell = cells_in list row in
        let c : Cell = blank_at list t.color in
        let k : ℕ = at - t.end in
        let l : length (take t.end A ++ replicate k c) ≡ t.end + k = length-append (take t.end A) (replicate k c) ∙ ap₂ ◌+◌ (length-take-le t.end A (let n = cells_enough list width row room in omega (arith, end))) (length-replicate k c) in
        let m : k + (width - (t.end + k)) ≡ width - t.end = omega (arith, end, fits) in
        ap₂ (λ (n : ℕ) (cs : List Cell). take n cs ++ replicate (width - n) c) (larger_is t.end at) reached_cells
        ∙ ap (λ (cs : List Cell). cs ++ replicate (width - (t.end + k)) c) (take_at (take t.end A ++ replicate k c) (drop (t.end + k) A) (t.end + k) l)
        ∙ append_assoc (take t.end A) (replicate k c) (replicate (width - (t.end + k)) c)
        ∙ ap (λ (cs : List Cell). take t.end A ++ cs) (replicate-append-replicate k (width - (t.end + k)) c ∙ ap (λ (n : ℕ). replicate n c) m)

  -- ---- cut

  module _ (row : List ℕ) (end at : ℕ) (near : at ≤ end) (inside : end ≤ width) (room : 3 * width ≤ length row) where
    abbrev A : List Cell
    A = cells_in list row

    abbrev X : List Cell
    X = take at A

    abbrev Y : List Cell
    Y = drop at A

    abbrev X' : List Cell
    X' = cond (ltb at end && is_later (cell_in list row at)) (lost_end X) X

    all_cells : width ≤ length A
    all_cells = cells_enough list width row room

    before : length X ≡ at
    before = length-take-le at A (omega (arith, near, inside, all_cells))

    left_length : length X' ≡ at
    left_length = cases (ltb at end && is_later (cell_in list row at)) (λ e. rw e (lost_end_length X ∙ before)) (λ e. rw e before)

    left_cells : cells_in list (cut_left list row end at) ≡ X' ++ Y
    unfolding cut_left cell_of
    left_cells =
        let first : ℕ = first_column X in
        let h : first ≤ at = omega (arith, before, first_le X) in
        let m : first + (at - first) ≡ at = omega (arith, h) in
        let n : length X - first ≡ at - first = omega (arith, before) in
        cases (ltb at end && is_later (cell_in list row at))
        (λ e.
        rw e (cells_written list (at - first) first row (same_numbers (at - first) 0 0 0) (same_length (at - first) 0 0 0) (omega (arith, h, near, inside, room))
        ∙ ap₂ (λ (a b : List Cell). take first A ++ a ++ b) (cells_same list (at - first) 0 0 0) (ap (λ (k : ℕ). drop k A) m)
        ∙ ap (λ (cs : List Cell). cs ++ Y) (sym (lost_end_law X ∙ ap₂ (λ (a : List Cell) (k : ℕ). a ++ replicate k (blank plain)) (take-take first at A h) n))))
        (λ e. rw e (sym (take-append-drop at A)))

    left_long : length (cut_left list row end at) ≡ length row
    unfolding cut_left
    left_long = cases (ltb at end && is_later (cell_in list row at)) (λ e. rw e (length-sets row (3 * first_column X) (same_numbers (at - first_column X) 0 0 0))) (λ e. rw e refl)

    -- new cells up to the last column
    pub row_clear : (c : ℕ) (new : List Cell) → length new ≡ width - at → take at (cells_in list (cut_left list row end at)) ++ new ≡ put at new (take end A ++ replicate (width - end) (blank_at list c))
    row_clear c new l =
        let w : ℕ = width - at in
        let joined : X ++ Y ≡ A = take-append-drop at A in
        let last : larger_of end (at + w) ≡ width = omega (arith, larger_is end (at + w), near, inside) in
        let none_left : width - larger_of end (at + w) ≡ 0 = omega (arith, last) in
        let lost : List Cell = replicate (laters (take (end - (at + w)) (drop w Y))) (blank plain) ++ drop (laters (take (end - (at + w)) (drop w Y))) (drop w Y) in
        ap (λ (cs : List Cell). take at cs ++ new) left_cells ∙ ap (λ (cs : List Cell). cs ++ new) (take_at X' Y at left_length)
        ∙ sym (ap₂ (λ (n k : ℕ). take n (X' ++ new ++ lost) ++ replicate k (blank_at list c)) last none_left
        ∙ append-nil (take width (X' ++ new ++ lost)) ∙ take_at (X' ++ new) lost width (omega (arith, length-append X' new, left_length, l, near, inside)))
        ∙ put_cells (blank_at list c) refl X Y new at w end width before l near inside (omega (arith, near, inside)) (omega (arith, length-drop at A, all_cells, near, inside)) X' left_length
        (ap (λ (cs : List Cell). cond (ltb at end && is_later (get_or cs at (blank plain))) (lost_end X) X) (sym joined))
        ∙ ap (λ (cs : List Cell). put at new (take end cs ++ replicate (width - end) (blank_at list c))) joined

    -- what stands behind the new cells
    module _ (w : ℕ) (fits : at + w ≤ width) where
      abbrev row₁ : List ℕ
      row₁ = cut_left list row end at

      abbrev A₁ : List Cell
      A₁ = cells_in list row₁

      abbrev lost : ℕ
      lost = laters (take (end - (at + w)) (drop w Y))

      rest_is : drop (at + w) A₁ ≡ drop w Y
      rest_is = ap (drop (at + w)) left_cells ∙ ap (λ (n : ℕ). drop (n + w) (X' ++ Y)) (sym left_length) ∙ drop-append-add X' Y w

      lost_is : laters (drop (at + w) (take end A₁)) ≡ lost
      lost_is = ap laters (drop_take (at + w) end A₁ ∙ ap (take (end - (at + w))) rest_is)

      few : lost ≤ end - (at + w)
      few = omega (arith, laters_le (take (end - (at + w)) (drop w Y)), length-take-le (end - (at + w)) (drop w Y) (omega (arith, length-drop w Y, length-drop at A, all_cells, inside)))

      right_cells : cells_in list (cut_right list row₁ end (at + w)) ≡ take (at + w) A₁ ++ replicate lost (blank plain) ++ drop (at + w + lost) A₁
      unfolding cut_right cell_of
      right_cells =
          ap (λ (k : ℕ). cells_in list (sets row₁ (3 * (at + w)) (same_numbers k 0 0 0))) lost_is
          ∙ cells_written list lost (at + w) row₁ (same_numbers lost 0 0 0) (same_length lost 0 0 0) (omega (arith, few, fits, inside, left_long, room))
          ∙ ap (λ (cs : List Cell). take (at + w) A₁ ++ cs ++ drop (at + w + lost) A₁) (cells_same list lost 0 0 0)

      right_long : length (cut_right list row₁ end (at + w)) ≡ length row
      unfolding cut_right
      right_long = length-sets row₁ (3 * (at + w)) (same_numbers (laters (drop (at + w) (take end A₁))) 0 0 0) ∙ left_long

      abbrev row₂ : List ℕ
      row₂ = cut_right list row₁ end (at + w)

      upto : length (take (at + w) A₁) ≡ at + w
      upto = length-take-le (at + w) A₁ (let n = cells_enough list width row₁ (omega (arith, left_long, room)) in omega (arith, fits))

      left_part : take at (cells_in list row₂) ≡ X'
      left_part =
          ap (take at) (right_cells ∙ append_assoc (take (at + w) A₁) (replicate lost (blank plain)) (drop (at + w + lost) A₁))
          ∙ take-append-le at (take (at + w) A₁) (replicate lost (blank plain) ++ drop (at + w + lost) A₁) (omega (arith, upto))
          ∙ take-take at (at + w) A₁ (omega arith) ∙ ap (take at) left_cells ∙ take_at X' Y at left_length

      right_part : drop (at + w) (cells_in list row₂) ≡ replicate lost (blank plain) ++ drop lost (drop w Y)
      right_part =
          ap (drop (at + w)) (right_cells ∙ append_assoc (take (at + w) A₁) (replicate lost (blank plain)) (drop (at + w + lost) A₁))
          ∙ drop_at (take (at + w) A₁) (replicate lost (blank plain) ++ drop (at + w + lost) A₁) (at + w) upto
          ∙ ap (λ (cs : List Cell). replicate lost (blank plain) ++ cs) (sym (drop-drop lost (at + w) A₁) ∙ ap (drop lost) rest_is)

      -- ---- the cluster

      module _ (p n b : ℕ) (place : 0 < p) (some : 0 < w) where
        cluster_cells_law : cells_in list (cluster_numbers w p n b) ≡ cluster_cells (part list p n) (body_at list b) w
        unfolding cells_in cell_of
        cluster_cells_law = ap (λ (cs : List Cell). cell_of list p n b ∷ cs) (cells_same list (w - 1) p 0 b) ∙ rw (ne_eqb p 0 (λ z. omega (arith, z, place))) refl

        abbrev row₃ : List ℕ
        row₃ = sets row₂ (3 * at) (cluster_numbers w p n b)

        cluster_row : cells_in list row₃ ≡ X' ++ cluster_cells (part list p n) (body_at list b) w ++ (replicate lost (blank plain) ++ drop lost (drop w Y))
        cluster_row =
            let k : length (cluster_numbers w p n b) ≡ 3 * w = omega (arith, some, same_length (w - 1) p 0 b) in
            cells_written list w at row₂ (cluster_numbers w p n b) k (omega (arith, fits, right_long, room))
            ∙ ap₂ (λ (x y : List Cell). x ++ cells_in list (cluster_numbers w p n b) ++ y) left_part right_part
            ∙ ap (λ (cs : List Cell). X' ++ cs ++ (replicate lost (blank plain) ++ drop lost (drop w Y))) cluster_cells_law

        pub row_put : (c : ℕ) → take (larger_of end (at + w)) (cells_in list row₃) ++ replicate (width - larger_of end (at + w)) (blank_at list c)
            ≡ put at (cluster_cells (part list p n) (body_at list b) w) (take end A ++ replicate (width - end) (blank_at list c))
        row_put c =
            let new : List Cell = cluster_cells (part list p n) (body_at list b) w in
            let l : length new ≡ w = omega (arith, some, length-replicate (w - 1) (cell [] (body_at list b))) in
            let joined : X ++ Y ≡ A = take-append-drop at A in
            ap (λ (cs : List Cell). take (larger_of end (at + w)) cs ++ replicate (width - larger_of end (at + w)) (blank_at list c)) cluster_row
            ∙ put_cells (blank_at list c) refl X Y new at w end width before l near inside fits (omega (arith, length-drop at A, all_cells, near, inside)) X' left_length
            (ap (λ (cs : List Cell). cond (ltb at end && is_later (get_or cs at (blank plain))) (lost_end X) X) (sym joined))
            ∙ ap (λ (cs : List Cell). put at new (take end cs ++ replicate (width - end) (blank_at list c))) joined

-- ---- the step

module _ (list row : List ℕ) (width : ℕ) (s : code.Screen) (p e w : ℕ) (ready : WriteReady width row s p e w) where
  abbrev to : ℕ
  to = s.at + w

  end_small : larger_of s.end s.at ≤ width
  end_small = omega (arith, larger_is s.end s.at, ready.ready.end, ready.ready.at)

  pub reach_ready : CellsReady row s.end (larger_of s.end s.at)
  reach_ready = record { order = omega (arith, larger_is s.end s.at); room = omega (arith, end_small, ready.ready.room) }

  -- the screen and the numbers behind the step
  abbrev end₁ : ℕ
  end₁ = larger_of s.end s.at

  abbrev after : code.Screen
  after = record { at = to; attributes = s.attributes; end = larger_of end₁ to; color = s.color; passed = s.passed }

  abbrev cleared : List ℕ
  cleared = cut_right list (cut_left list (reached row s s.at) end₁ s.at) end₁ to

  abbrev written : List ℕ
  written = sets cleared (3 * s.at) (cluster_numbers w p (e - p) s.attributes)

  reached_long : length (reached row s s.at) ≡ length row
  reached_long = length-sets row (3 * s.end) (same_numbers (s.at - s.end) 0 0 s.color)

  written_row : row_of list width written after ≡ put s.at (cluster_cells (part list p (e - p)) (body_at list s.attributes) w) (row_of list width row s)
  unfolding row_of
  written_row =
      row_put list width (reached row s s.at) end₁ s.at (omega (arith, larger_is s.end s.at)) end_small (omega (arith, reached_long, ready.ready.room)) w ready.fits p (e - p) s.attributes ready.place ready.some s.color
      ∙ ap (put s.at (cluster_cells (part list p (e - p)) (body_at list s.attributes) w)) (reached_row list width row s s.at ready.ready.end ready.ready.at ready.ready.room)

  written_same : screen_at list width written after ≡ write width (screen_at list width row s) (part list p (e - p)) w
  unfolding screen_at write
  written_same =
      let n : eqb s.at width ≡ false = ne_eqb s.at width (λ z. omega (arith, z, ready.some, ready.fits)) in
      rw n (ap (λ (cs : List Cell). screen cs (cursor_of width to) (eqb to width) (body_at list s.attributes) (not (eqb s.passed 0))) written_row)

  module _ (t : code.Screen) (row₁ : List ℕ) (reach : Reached row s s.at row₁ t) (long₁ : length row₁ ≡ length row) where
    pub cut_ready : CellsReady row₁ 0 t.end
    cut_ready = let e : t.end ≡ larger_of s.end s.at = ap (λ (x : code.Screen). x.end) reach.state in record { order = omega arith; room = omega (arith, e, end_small, long₁, ready.ready.room) }

    pub write_step : (row₂ row₃ : List ℕ) (r : code.Screen) → row₂ ≡ cut_right list (cut_left list row₁ t.end s.at) t.end to → row₃ ≡ sets row₂ (3 * s.at) (cluster_numbers (to - s.at) p (e - p) t.attributes)
        → length row₃ ≡ length row → r ≡ with_end (with_at t to) (larger_of t.end to) → Moved list width row s (λ u. write width u (part list p (e - p)) w) row₃ r
    write_step row₂ row₃ r cut set long₃ is =
        let k : to - s.at ≡ w = omega arith in
        let i : r ≡ after = is ∙ ap (λ (x : code.Screen). with_end (with_at x to) (larger_of x.end to)) reach.state in
        let f : row₂ ≡ cleared = cut ∙ ap₂ (λ (l : List ℕ) (x : code.Screen). cut_right list (cut_left list l x.end s.at) x.end to) reach.numbers reach.state in
        let g : row₃ ≡ written = set ∙ ap₂ (λ (n : ℕ) (x : code.Screen). sets row₂ (3 * s.at) (cluster_numbers n p (e - p) x.attributes)) k reach.state ∙ ap (λ (l : List ℕ). sets l (3 * s.at) (cluster_numbers w p (e - p) s.attributes)) f in
        let l : length written ≡ length row = ap length (sym g) ∙ long₃ in
        rw (g, i)
        record {
          same = written_same;
          ready = record {
            some = ready.ready.some;
            at = ready.fits;
            end = omega (arith, larger_is end₁ to, end_small, ready.fits);
            room = omega (arith, l, ready.ready.room);
          };
        }
