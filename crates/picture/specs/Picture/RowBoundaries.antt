-- Every row begins and ends at a column that is within no cell of the line.
use Rattle.std.specs.Prelude.{◌≡◌, refl, Bool}
use Rattle.std.proofs.Math.Path.{sym, ap, subst}
use Rattle.std.proofs.Common.{◌∙◌}
use Prim.Native.Nat.{ℕ, ◌+◌}
use native.Mathlib.Omega.{arith}
use Rattle.std.proofs.Math.Bool.{cond}
use mathlib.Core.List.{List, [], ◌∷◌, ◌++◌, map, append_assoc}
use Rattle.std.proofs.Math.Option.{Option}
use Rattle.text.specs.Each.{All, all_nil, all_cons}
use Rattle.text.specs.Utf8.{Scalar}
use Rattle.text.specs.Class.{Profile}
use Rattle.text.specs.Cluster.{clusters}
use Rattle.spans.specs.Spans.{Content, text, Span}
use Rattle.spans.specs.Spans.Laws.{map_append}
use Rattle.rows.specs.Marks.{drawn_columns}
use Rattle.drawing.specs.Marks.{line_drawn}
use Rattle.drawing.specs.Attributes.{styled}
use Rattle.drawing.specs.Draw.{text_style}
use Rattle.columns.specs.Columns.{span_columns}
use Rattle.columns.specs.Columns.Wrapping.{total, EachEnd, widths, TextEnds, Stops}
use Rattle.picture.specs.Conditions.{PlainComposed, WordBreakClasses, Drawable}
use Rattle.picture.specs.Picture.{Cell}
use Rattle.picture.specs.Picture.Window.{columns, columns_append, Outside, outside_before, outside_behind, outside_append}
use Rattle.picture.specs.Picture.LineCells.{Rendition, rendition_after, cell_width, text_cells, span_cells, line_cells, cells_widths}
use Rattle.picture.specs.Picture.DrawnWidths.{text_widths, span_columns_law}
use Rattle.picture.specs.Picture.WordClusters.{text_ends}

-- column x is within none of the cells
abbrev pub Boundary : Profile → List Cell → ℕ → Type 0
Boundary P cells x = Outside x 0 (map (cell_width P) cells)

module _ (P : Profile) where
  -- where some of the cells end, and the others begin
  between : (cells xs ys : List Cell) → xs ++ ys ≡ cells → Boundary P cells (columns (cell_width P) xs)
  between cells xs ys e =
      let n : ℕ = columns (cell_width P) xs in
      rw (← e, map_append (cell_width P) xs ys) (outside_append n 0 (map (cell_width P) xs) (map (cell_width P) ys) (outside_behind n 0 (map (cell_width P) xs) (omega arith)) (outside_before n (0 + n) (map (cell_width P) ys) (omega arith)))

  cells_end : (cells xs ys zs : List Cell) → xs ++ (ys ++ zs) ≡ cells → EachEnd (Boundary P cells) (columns (cell_width P) xs) (map (cell_width P) ys)
  unfolding total EachEnd
  cells_end cells xs [] zs e = tt
  cells_end cells xs (y ∷ ys) zs e =
      let f : (xs ++ (y ∷ [])) ++ (ys ++ zs) ≡ cells = append_assoc xs (y ∷ []) (ys ++ zs) ∙ e in
      let n : columns (cell_width P) (xs ++ (y ∷ [])) ≡ columns (cell_width P) xs + cell_width P y = columns_append (cell_width P) xs (y ∷ []) ∙ omega arith in
      (rw n at (between cells (xs ++ (y ∷ [])) (ys ++ zs) f), rw n at (cells_end cells (xs ++ (y ∷ [])) ys zs f))

  module _ (composed : PlainComposed P) (classes : WordBreakClasses P) (current : Option ℕ) (count : List Scalar → ℕ) (b : Bool) (cells : List Cell) where
    -- F holds wherever wrapping may end a row in a span, or behind it
    span_stops : (r : Rendition) (p : ℕ) (xs ys : List Cell) (m : Option ℕ) (s : List Scalar) → columns (cell_width P) xs ≡ p → xs ++ (span_cells P current r p (text m s) ++ ys) ≡ cells → Drawable P (text m s)
        → TextEnds (Boundary P cells) P b p s
    unfolding span_cells
    span_stops r p xs ys m s n e d =
        let x : List Scalar = cond r.line_drawing (line_drawn s) s in
        let now : List Cell = text_cells P r.attrs (text_style P 0 0 current m) x in
        let w : map (cell_width P) now ≡ widths P (clusters P s) = cells_widths P (styled r.attrs (text_style P 0 0 current m)) (clusters P x) ∙ sym (text_widths P composed r.line_drawing s) in
        text_ends P (Boundary P cells) classes b s p (rw n at (between cells xs (now ++ ys) e)) (rw (n, w) at (cells_end cells xs now ys e)) (d.unshared m s refl)

    -- counted : wrapping counts the columns that a span draws
    pub stops : {ss : List Span} → All (λ (s : Span). Drawable P s.content) ss → All (λ (s : Span). (p : ℕ) → span_columns P count p s.content ≡ span_columns P drawn_columns p s.content) ss
        → (r : Rendition) (p : ℕ) (xs : List Cell) → columns (cell_width P) xs ≡ p → xs ++ line_cells P current r p ss ≡ cells → Stops (Boundary P cells) P count b p ss
    unfolding line_cells Stops
    stops all_nil all_nil r p xs n e = tt
    stops (all_cons {a = s} {s = ss} d a) (all_cons k c) r p xs n e =
        let now : List Cell = span_cells P current r p s.content in
        let q : ℕ = p + columns (cell_width P) now in
        let m : Rendition = rendition_after r s.place s.content in
        let f : (xs ++ now) ++ line_cells P current m q ss ≡ cells = append_assoc xs now (line_cells P current m q ss) ∙ e in
        let l : columns (cell_width P) (xs ++ now) ≡ q = columns_append (cell_width P) xs now ∙ ap (λ (i : ℕ). i + columns (cell_width P) now) n in
        let i : q ≡ p + span_columns P count p s.content = ap (λ (n : ℕ). p + n) (span_columns_law P composed current r p s.content d ∙ sym (k p)) in (
          λ o x u. span_stops r p xs (line_cells P current m q ss) o x n (subst (λ (y : Content). xs ++ (span_cells P current r p y ++ line_cells P current m q ss) ≡ cells) u e) (subst (Drawable P) u d),
          rw (l ∙ i) at (between cells (xs ++ now) (line_cells P current m q ss) f),
          subst (λ (n : ℕ). Stops (Boundary P cells) P count b n ss) i (stops a c m q (xs ++ now) l f),
        )
