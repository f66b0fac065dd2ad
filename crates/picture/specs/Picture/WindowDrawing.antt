-- A drawing in a window whose edges lie within no cell shows the cells inside it, and question 8 does not refuse it.
use Rattle.std.specs.Prelude.{◌≡◌, ℕ, ◌+◌, ◌-◌, ◌%◌, ◌≤◌, Bool, true, false, ltb}
use Rattle.std.proofs.Math.Path.{refl, sym, ap, ap₂, subst}
use Rattle.std.proofs.Common.{◌∙◌}
use native.Mathlib.Omega.{arith}
use Rattle.std.proofs.Math.Bool.{cond}
use mathlib.Core.List.{List, [], ◌∷◌, ◌++◌, map, append-nil}
use Rattle.std.proofs.Math.Option.{Option, none, some}
use borrow.Author.Tests.{ltb-true, ltb-false}
use Rattle.text.specs.Tests.{cases, and_T, is_true, true_T, by_case}
use Rattle.text.specs.Each.{all_split}
use Rattle.text.specs.Utf8.{Scalar}
use Rattle.text.specs.Class.{Profile}
use Rattle.text.specs.Width.{width_of}
use Rattle.text.specs.Cluster.{clusters, join_all}
use Rattle.spans.specs.Sequence.{Sequence, sgr, erase_to_end, ignored, hyperlink, line_drawing}
use Rattle.spans.specs.Spans.{Content, text, control, invalid, unprintable, escape, tab, crlf, lf, Span}
use Rattle.spans.specs.Spans.Laws.{map_append}
use Rattle.drawing.specs.declared.attributes.Attributes.{Attributes}
use Rattle.drawing.specs.Attributes as attributes
use Rattle.drawing.specs.Attributes.{Style, file, styled}
use Rattle.drawing.specs.Clip.{spaces}
use Rattle.drawing.specs.Marks.{byte_mark, scalar_mark, line_drawn}
use Rattle.drawing.specs.Change as change
use Rattle.drawing.specs.Change.{Change, clipped, whole}
use Rattle.drawing.specs.Draw.{State, Sent, sent, style, move, meets, windowed, write_truncated, write_marks, render_sequence, text_style, render_span, render_spans}
use Rattle.columns.specs.Columns.Wrapping.{total, widths, widths_total}
use Rattle.picture.specs.Picture.{Cell, cell, shown_from}
use Rattle.picture.specs.Picture.Window.{columns, inside, columns_append, inside_append, inside_right, inside_left, SomeWidth, Outside, outside_parts}
use Rattle.picture.specs.Picture.Clipping.{clip_inside, inside_clusters}
use Rattle.picture.specs.Picture.AttributesInForce.{in_force, force_append, shown_append, whole_append, InForce, style_sent}
use Rattle.picture.specs.Picture.LineCells.{Rendition, rendition_of, rendition_after, cell_width, text_cells, mark_cells, span_cells, line_cells, cells_widths, cells_inside}

module _ (P : Profile) (start end : ℕ) (ordered : start ≤ end) where
  -- the window's edges are within none of these widths, the first beginning at column p
  pub record Uncut (p : ℕ) (ws : List ℕ) : Type 0 where
    pub wide : SomeWidth ws
    pub starts : Outside start p ws
    pub ends : Outside end p ws

  abbrev pub UncutCells : ℕ → List Cell → Type 0
  UncutCells p xs = Uncut p (map (cell_width P) xs)

  uncut_parts : (p : ℕ) (xs ys : List Cell) → UncutCells p (xs ++ ys) → UncutCells p xs × UncutCells (p + columns (cell_width P) xs) ys
  uncut_parts p xs ys t =
      let u : Uncut p (map (cell_width P) xs ++ map (cell_width P) ys) = rw (map_append (cell_width P) xs ys) at t in
      let w = all_split (map (cell_width P) xs) u.wide in
      let s = outside_parts start p (map (cell_width P) xs) (map (cell_width P) ys) u.starts in
      let f = outside_parts end p (map (cell_width P) xs) (map (cell_width P) ys) u.ends in
      (record { wide = w.0; starts = s.0; ends = f.0 }, record { wide = w.1; starts = s.1; ends = f.1 })

  -- what is sent from the state t shows those of the cells xs that are inside the window
  record Draws (t : State) (a : Attributes) (xs : List Cell) (n : Rendition) (r : Sent) : Type 0 where
    shows : shown_from P a r.changes ≡ inside (cell_width P) start end t.position xs
    whole : whole r.changes ≡ true
    force : InForce r.after (in_force a r.changes)
    rendition : rendition_of r.after ≡ n
    position : r.after.position ≡ t.position + columns (cell_width P) xs

  draws_nothing : (t u : State) (a : Attributes) → InForce u a → u.position ≡ t.position → Draws t a [] (rendition_of u) (sent [] u)
  unfolding total shown_from whole in_force inside
  draws_nothing t u a f e = record { shows = refl; whole = refl; force = f; rendition = refl; position = omega arith }

  draws_both : {t : State} {a : Attributes} {xs ys : List Cell} {m n : Rendition} {q r : Sent} → Draws t a xs m q → Draws q.after (in_force a q.changes) ys n r
      → Draws t a (xs ++ ys) n (sent (q.changes ++ r.changes) r.after)
  draws_both {t} {a} {xs} {ys} {q = q} {r = r} d e =
      record {
        shows = shown_append r.changes P a q.changes ∙ ap₂ (λ (x y : List Cell). x ++ y) d.shows e.shows
            ∙ ap (λ (n : ℕ). inside (cell_width P) start end t.position xs ++ inside (cell_width P) start end n ys) d.position ∙ sym (inside_append (cell_width P) start end t.position xs ys);
        whole = whole_append r.changes q.changes d.whole ∙ e.whole;
        force = rw (force_append r.changes a q.changes) e.force;
        rendition = e.rendition;
        position = omega (arith, d.position, e.position, columns_append (cell_width P) xs ys);
      }

  -- ---- a text

  module _ (t : State) (s : Style) (x : List Scalar) (u : Uncut t.position (widths P (clusters P x))) where
    abbrev kept : List (List Scalar)
    kept = inside (width_of P) start end t.position (clusters P x)

    window_is : t.position ≤ end → windowed P start end t x ≡ change.text (join_all kept)
    unfolding clipped
    window_is h = ap clipped (clip_inside P t.position start end ordered x h u.wide u.starts u.ends)

    -- the text isn't met: no cluster of it is inside
    none_kept : meets P start end t (width_of P x) ≡ false → kept ≡ []
    none_kept e =
        let n = widths_total P x in
        cases (ltb start (t.position + width_of P x))
        (λ f. inside_right (width_of P) start end t.position (clusters P x) (ltb-false t.position end (rw f at e)))
        (λ f. inside_left (width_of P) start end t.position (clusters P x) u.wide (omega (arith, ltb-false start (t.position + width_of P x) f)))

    write_draws : (a : Attributes) → InForce t a → Draws t a (text_cells P t.attrs s x) (rendition_of t) (write_truncated P start end t s x)
    unfolding shown_from whole in_force write_truncated
    write_draws a f =
        let b : Attributes = styled t.attrs s in
        let n : columns (cell_width P) (text_cells P t.attrs s x) ≡ width_of P x = ap total (cells_widths P b (clusters P x)) ∙ widths_total P x in
        let i = cells_inside P b start end t.position (clusters P x) in
        let y = style_sent P t s a f in
        by_case (Draws t a (text_cells P t.attrs s x) (rendition_of t)) (meets P start end t (width_of P x))
        (λ e.
        let m = ltb-true t.position end (is_true _ (and_T (ltb start (t.position + width_of P x)) (ltb t.position end) (true_T e)).1) in
        let c : Change = change.text (join_all kept) in
        subst (λ (c : Change). Draws t a (text_cells P t.attrs s x) (rendition_of t) (sent ((style t s).changes ++ c ∷ []) (move (style t s).after (width_of P x)))) (sym (window_is (omega arith)))
        (record {
          shows = shown_append (c ∷ []) P a (style t s).changes ∙ rw (y.shows, y.sent, append-nil, inside_clusters P start end t.position x) (sym i);
          whole = whole_append (c ∷ []) (style t s).changes y.whole;
          force = λ z. force_append (c ∷ []) a (style t s).changes ∙ y.sent ∙ y.force z;
          rendition = rw (y.attrs, y.line_drawing);
          position = omega (arith, y.position);
        }))
        (λ e. record { shows = sym (i ∙ ap (map (cell b)) (none_kept e)); whole = refl; force = f; rendition = refl; position = omega arith })

  -- ---- a span

  -- the same, the rendition being n
  text_draws : (n : Rendition) (t : State) (a : Attributes) → InForce t a → rendition_of t ≡ n → (s : Style) (x : List Scalar) → UncutCells t.position (text_cells P n.attrs s x)
      → Draws t a (text_cells P n.attrs s x) n (write_truncated P start end t s x)
  text_draws n t a f e s x = subst (λ (n : Rendition). UncutCells t.position (text_cells P n.attrs s x) → Draws t a (text_cells P n.attrs s x) n (write_truncated P start end t s x)) e (λ u. write_draws t s x (rw (cells_widths P (styled t.attrs s) (clusters P x)) at u) a f)

  marks_draw : (s : List Scalar) (n : Rendition) (t : State) (a : Attributes) → InForce t a → rendition_of t ≡ n → UncutCells t.position (mark_cells P n.attrs s)
      → Draws t a (mark_cells P n.attrs s) n (write_marks P start end t s)
  unfolding write_marks mark_cells
  marks_draw [] n t a f e u = subst (λ (n : Rendition). Draws t a [] n (sent [] t)) e (draws_nothing t t a f refl)
  marks_draw (c ∷ s) n t a f e u =
      let p = uncut_parts t.position (text_cells P n.attrs attributes.control (scalar_mark c.code)) (mark_cells P n.attrs s) u in
      let d = text_draws n t a f e attributes.control (scalar_mark c.code) p.0 in
      draws_both d (marks_draw s n _ _ d.force d.rendition (rw d.position p.1))

  module _ (current : Option ℕ) where
    style_same : (m : Option ℕ) → text_style P 0 0 current m ≡ text_style P start end current m
    unfolding text_style
    style_same m = by current m
      where
        by : (c m : Option ℕ) → text_style P 0 0 c m ≡ text_style P start end c m
        by c none = refl
        by none (some k) = refl
        by (some j) (some k) = refl

    sequence_draws : (e : Sequence) (place : ℕ) (t : State) (a : Attributes) → InForce t a → Draws t a [] (rendition_after (rendition_of t) place (escape e)) (sent [] (render_sequence P start end t place e))
    unfolding rendition_after render_sequence
    sequence_draws (sgr os) place t a f = draws_nothing t _ a (λ z. cc) refl
    sequence_draws (hyperlink b n) place t a f = draws_nothing t _ a (λ z. cc) refl
    sequence_draws (line_drawing b) place t a f = draws_nothing t _ a f refl
    sequence_draws erase_to_end place t a f = draws_nothing t _ a f refl
    sequence_draws ignored place t a f = draws_nothing t t a f refl

    span_draws : (c : Content) (place : ℕ) (n : Rendition) (t : State) (a : Attributes) → InForce t a → rendition_of t ≡ n → UncutCells t.position (span_cells P current n t.position c)
        → Draws t a (span_cells P current n t.position c) (rendition_after n place c) (render_span P start end current t place c)
    unfolding rendition_after span_cells render_span
    span_draws (text m s) place n t a f e u =
        let y : Style = text_style P 0 0 current m in
        let x : List Scalar = cond n.line_drawing (line_drawn s) s in
        subst (Draws t a (text_cells P n.attrs y x) n) (ap₂ (λ (y : Style) (d : Bool). write_truncated P start end t y (cond d (line_drawn s) s)) (style_same m) (sym (ap (λ (n : Rendition). n.line_drawing) e))) (text_draws n t a f e y x u)
    span_draws (control b) place n t a f e u = text_draws n t a f e attributes.control (byte_mark b) u
    span_draws (invalid b) place n t a f e u = text_draws n t a f e attributes.control (byte_mark b) u
    span_draws (unprintable s) place n t a f e u = marks_draw s n t a f e u
    span_draws (escape q) place n t a f e u = subst (λ (n : Rendition). Draws t a [] (rendition_after n place (escape q)) (sent [] (render_sequence P start end t place q))) e (sequence_draws q place t a f)
    span_draws tab place n t a f e u = text_draws n t a f e file (spaces (8 - t.position % 8)) u
    span_draws crlf place n t a f e u = subst (λ (n : Rendition). Draws t a [] n (sent [] t)) e (draws_nothing t t a f refl)
    span_draws lf place n t a f e u = subst (λ (n : Rendition). Draws t a [] n (sent [] t)) e (draws_nothing t t a f refl)

    -- ---- all spans

    module _ (close : State → List Change) (closed : (t : State) (a : Attributes) → (shown_from P a (close t) ≡ []) × (whole (close t) ≡ true)) where
      pub spans_draw : (ss : List Span) (n : Rendition) (t : State) (a : Attributes) → InForce t a → rendition_of t ≡ n → UncutCells t.position (line_cells P current n t.position ss)
          → (shown_from P a (render_spans P start end current close t ss) ≡ inside (cell_width P) start end t.position (line_cells P current n t.position ss)) × (whole (render_spans P start end current close t ss) ≡ true)
      unfolding inside line_cells render_spans
      spans_draw [] n t a f e u = closed t a
      spans_draw (s ∷ ss) n t a f e u =
          let xs : List Cell = span_cells P current n t.position s.content in
          let m : Rendition = rendition_after n s.place s.content in
          let q : Sent = render_span P start end current t s.place s.content in
          let ys : List Cell = line_cells P current m (t.position + columns (cell_width P) xs) ss in
          let p = uncut_parts t.position xs ys u in
          let d : Draws t a xs m q = span_draws s.content s.place n t a f e p.0 in
          let r = spans_draw ss m q.after (in_force a q.changes) d.force d.rendition (rw d.position p.1) in
          let rest : List Change = render_spans P start end current close q.after ss in (
            shown_append rest P a q.changes ∙ ap₂ (λ (x y : List Cell). x ++ y) d.shows (rw d.position at r.0) ∙ sym (inside_append (cell_width P) start end t.position xs ys),
            whole_append rest q.changes d.whole ∙ r.1,
          )
