-- Rows that run end to end between cells: question 8 refuses no drawing of them, and drawn one by one they show all cells.
use Rattle.std.specs.Prelude.{◌≡◌, Bool, ltb}
use Rattle.std.proofs.Math.Path.{refl, ap, ap₂}
use Rattle.std.proofs.Common.{◌∙◌}
use Prim.Native.Nat.{ℕ, zero, suc, ◌+◌, ◌-◌, ◌*◌, ◌≤◌}
use native.Mathlib.Omega.{arith}
use Rattle.std.proofs.Math.Bool.{true, false}
use mathlib.Core.List.{List, [], ◌∷◌, ◌++◌, map, append_assoc, append-nil}
use Rattle.std.proofs.Math.Option.{Option}
use Rattle.std.proofs.Math.ListN.{length, length-append}
use Rattle.text.specs.Class.{Profile}
use Rattle.spans.specs.Spans.{Span}
use Rattle.rows.specs.Rows.{Row, row, Mode, rows}
use Rattle.drawing.specs.declared.attributes.Attributes.{Attributes}
use Rattle.drawing.specs.Attributes.{plain, styled}
use Rattle.drawing.specs.Change.{whole}
use Rattle.drawing.specs.Reader.Laws.{seen_whole}
use Rattle.drawing.specs.Draw.{State, initial, render_spans, end_of, start_of, close_rows, render_wrapped}
use Rattle.columns.specs.Columns.Wrapping.{Run, last, next}
use Rattle.picture.specs.Picture.{Cell, shown_from, shown, row_changes, rows_shown}
use Rattle.picture.specs.Picture.Readers.{seen_cells, shown_seen, seen_join}
use Rattle.picture.specs.Picture.Window.{inside, inside_parts, SomeWidth}
use Rattle.picture.specs.Picture.AttributesInForce.{InForce}
use Rattle.picture.specs.Picture.LineCells.{rendition_of, cell_width, line_cells}
use Rattle.picture.specs.Picture.WindowDrawing.{spans_draw}
use Rattle.picture.specs.Picture.RowBoundaries.{Boundary}

-- ---- rows by number

module _ (r : Row) (rest : List Row) where
  end_at : (bs : List Row) (e : ℕ) → end_of e (length bs) (bs ++ (r ∷ rest)) ≡ r.end
  unfolding end_of
  end_at [] e = refl
  end_at (b ∷ bs) e = end_at bs b.end

  start_at : (bs : List Row) (e : ℕ) → start_of e (length bs) (bs ++ (r ∷ rest)) ≡ r.start
  unfolding start_of
  start_at [] e = refl
  start_at (b ∷ bs) e = start_at bs e

module _ (F : ℕ → Type 0) where
  -- the end of row j, and the start of row i before it
  run_end : {a z : ℕ} {rs : List Row} → Run F a z rs → (e j : ℕ) → (a ≤ end_of e j rs) × F (end_of e j rs)
  unfolding end_of
  run_end (last h f g) e zero = (h, g)
  run_end (last h f g) e (suc j) = (h, g)
  run_end (next h f g r) e zero = (h, g)
  run_end (next {b = b} h f g r) e (suc j) = let q = run_end r b j in (omega (arith, q.0), q.1)

  run_start : {a z : ℕ} {rs : List Row} → Run F a z rs → (e i j : ℕ) → i ≤ j → (start_of (end_of e j rs) i rs ≤ end_of e j rs) × F (start_of (end_of e j rs) i rs)
  unfolding start_of end_of
  run_start (last h f g) e zero zero k = (h, f)
  run_start (last h f g) e zero (suc j) k = (h, f)
  run_start (last h f g) e (suc i) zero k = absurd (omega arith)
  run_start (last h f g) e (suc i) (suc j) k = (omega arith, g)
  run_start (next h f g r) e zero zero k = (h, f)
  run_start (next {b = b} h f g r) e zero (suc j) k = (omega (arith, (run_end r b j).0), f)
  run_start (next h f g r) e (suc i) zero k = absurd (omega arith)
  run_start (next {b = b} h f g r) e (suc i) (suc j) k = run_start r b i j (omega arith)

-- ---- drawings

module _ (P : Profile) (current : Option ℕ) (ss : List Span) where
  abbrev pub cells : List Cell
  cells = line_cells P current (rendition_of initial) 0 ss

  closed : (room : Bool) (t : State) (a : Attributes) → (shown_from P a (close_rows room t) ≡ []) × (whole (close_rows room t) ≡ true)
  unfolding whole shown_from close_rows
  closed true t a = (refl, refl)
  closed false t a = (refl, refl)

  begun : InForce initial plain
  unfolding styled initial
  begun e = refl

  module _ (wide : SomeWidth (map (cell_width P) cells)) where
    window : (start end : ℕ) (room : Bool) → start ≤ end → Boundary P cells start → Boundary P cells end
        → (shown P (render_spans P start end current (close_rows room) initial ss) ≡ inside (cell_width P) start end 0 cells) × (whole (render_spans P start end current (close_rows room) initial ss) ≡ true)
    unfolding initial shown
    window start end room h f g = spans_draw P start end h current (close_rows room) (closed room) ss (rendition_of initial) initial plain begun refl (record { wide = wide; starts = f; ends = g })

    module _ (reader width : ℕ) (mode : Mode) where
      pub rows_whole : {z : ℕ} → Run (Boundary P cells) 0 z (rows P width mode ss) → (first count : ℕ) → 1 ≤ count → whole (row_changes P reader first count width mode current ss) ≡ true
      unfolding row_changes render_wrapped
      rows_whole r first count h =
          let rs : List Row = rows P width mode ss in
          let end : ℕ = end_of 0 (first + count - 1) rs in
          let start : ℕ = start_of end first rs in
          let s = run_start (Boundary P cells) r 0 first (first + count - 1) (omega arith) in
          seen_whole reader _ ∙ (window start end (ltb (end - start) (width * count)) s.0 s.1 (run_end (Boundary P cells) r 0 (first + count - 1)).1).1

      pub row_shows : (before : List Row) (a b : ℕ) (rest : List Row) → before ++ (row a b ∷ rest) ≡ rows P width mode ss → a ≤ b → Boundary P cells a → Boundary P cells b
          → shown P (row_changes P reader (length before) 1 width mode current ss) ≡ seen_cells reader (inside (cell_width P) a b 0 cells)
      unfolding row_changes render_wrapped
      row_shows before a b rest e h f g =
          let n : length before + 1 - 1 ≡ length before = omega arith in
          rw (← e, n, end_at (row a b) rest before 0, start_at (row a b) rest before b) (shown_seen P reader _ ∙ ap (seen_cells reader) (window a b (ltb (b - a) (width * 1)) h f g).0)

      run_ordered : {a z : ℕ} {rs : List Row} → Run (Boundary P cells) a z rs → a ≤ z
      run_ordered (last h f g) = h
      run_ordered (next h f g r) = omega (arith, run_ordered r)

      pub rows_shown_law : {a z : ℕ} {rest : List Row} → Run (Boundary P cells) a z rest → (before : List Row) → before ++ rest ≡ rows P width mode ss
          → rows_shown P reader width mode current ss (length before) (length rest) ≡ seen_cells reader (inside (cell_width P) a z 0 cells)
      unfolding rows_shown
      rows_shown_law {a} {z} (last h f g) before e = ap (λ (l : List Cell). l ++ []) (row_shows before a z [] e h f g) ∙ append-nil (seen_cells reader (inside (cell_width P) a z 0 cells))
      rows_shown_law {a} {z} (next {b = b} {rs = rs} h f g r) before e =
          let n : length (before ++ (row a b ∷ [])) ≡ suc (length before) = length-append before (row a b ∷ []) ∙ omega arith in
          ap₂ (λ (x y : List Cell). x ++ y) (row_shows before a b rs e h f g) (rw n at (rows_shown_law r (before ++ (row a b ∷ [])) (append_assoc before (row a b ∷ []) rs ∙ e)))
          ∙ seen_join reader (inside (cell_width P) a b 0 cells) (inside (cell_width P) b z 0 cells) ∙ ap (seen_cells reader) (inside_parts (cell_width P) a b z 0 cells h (run_ordered r))
