-- Question 8 of a drawing: a text of its changes is torn exactly where a drawn cluster begins left of the window and ends right of it.
use Rattle.std.specs.Prelude.{◌≡◌, true, false, cond, ◌&&◌, ◌||◌, eqb, leb}
use Rattle.std.proofs.Math.Path.{refl, sym, ap, ap₂}
use Rattle.std.proofs.Common.{◌∙◌, add-zero, add_assoc, arith, lt→ltb}
use Prim.Native.Nat.{ℕ, zero, suc, ◌+◌, ◌-◌, ◌*◌, ◌%◌, ◌≤◌, ◌<◌}
use Rattle.std.proofs.Math.Bool.{Bool, not, or_assoc}
use mathlib.Core.List.{List, [], ◌∷◌, ◌++◌}
use Rattle.std.proofs.Math.Option.{Option, none, some}
use Rattle.std.proofs.Math.Dec.{ltb, ltb→lt}
use borrow.Author.Tests.{ne_eqb, leb-true, leb-false, lt-ltb}
use Rattle.text.specs.Tests.{cases, and_T, or_T, is_true, is_false, true_T, iff, by_case}
use Rattle.text.specs.Utf8.{Scalar}
use Rattle.text.specs.Class.{Profile}
use Rattle.text.specs.Width.{width_of}
use Rattle.text.specs.Width.Laws.{width_nil, width_append}
use Rattle.text.specs.Cluster.{clusters, join_all}
use Rattle.text.specs.Cluster.Laws.{join_nil, join_cons, clusters_all}
use Rattle.spans.specs.Sequence.{Sequence, sgr, erase_to_end, ignored, hyperlink, line_drawing}
use Rattle.spans.specs.Spans.{Content, text, control, invalid, unprintable, escape, tab, crlf, lf, Span}
use Rattle.rows.specs.Rows.{Row, Mode, rows}
use Rattle.drawing.specs.Attributes as attributes
use Rattle.drawing.specs.Attributes.{Style, file, number}
use Rattle.drawing.specs.Clip.{clip, spaces}
use Rattle.drawing.specs.Clip.Laws.{refused, no_more, clip_straddles}
use Rattle.drawing.specs.Marks.{byte_mark, scalar_mark, line_drawn}
use Rattle.drawing.specs.Change.{Change, whole, clipped}
use Rattle.drawing.specs.Change.Laws.{whole_append}
use Rattle.drawing.specs.Draw.{State, Sent, sent, style, move, meets, windowed, write_truncated, write_marks, render_sequence, text_style, render_span, render_spans, initial, left_arrow, right_arrow, close_window, window_start, render, close_rows, wrap_bounds, render_wrapped}
use Rattle.drawing.specs.Draw.Bounds.{bounds_ordered}
use Rattle.drawing.specs.Straddled.{straddles, mark_clusters, span_clusters, drawing_after, line_clusters, straddled}

neither : (a b : Bool) → (not a && not b) ≡ not (a || b)
neither true b = refl
neither false b = refl

-- ---- what a drawing sends beside its texts

pub arrow_whole : whole left_arrow ≡ true
unfolding whole left_arrow
arrow_whole = refl

pub window_whole : (end : ℕ) (t : State) → whole (close_window end t) ≡ true
unfolding whole close_window right_arrow
window_whole end t = cases (ltb end t.position) (λ e. rw e refl) (λ e. cases (ltb t.position end) (λ f. rw (e, f) refl) (λ f. rw (e, f) refl))

pub rows_whole : (room : Bool) (t : State) → whole (close_rows room t) ≡ true
unfolding whole close_rows
rows_whole true t = refl
rows_whole false t = refl

-- the attributes that a style sends, and the state after it
record Styled (t : State) (r : Sent) : Type 0 where
  whole : whole r.changes ≡ true
  position : r.after.position ≡ t.position
  drawing : r.after.line_drawing ≡ t.line_drawing

style_whole : (t : State) (s : Style) → Styled t (style t s)
unfolding style whole
style_whole t s =
    by_case (Styled t) (eqb (number t.style) (number s) && not t.changed)
    (λ e. record { whole = refl; position = refl; drawing = refl })
    (λ e. record { whole = refl; position = refl; drawing = refl })

clipped_whole : (x : Option (List Scalar)) → whole (clipped x ∷ []) ≡ not (refused x)
unfolding whole clipped refused
clipped_whole none = refl
clipped_whole (some s) = refl

module _ (P : Profile) where
  -- ---- clusters side by side

  abbrev columns : List (List Scalar) → ℕ
  columns gs = width_of P (join_all gs)

  columns_nil : columns [] ≡ 0
  columns_nil = ap (width_of P) join_nil ∙ width_nil P

  columns_cons : (g : List Scalar) (gs : List (List Scalar)) → columns (g ∷ gs) ≡ width_of P g + columns gs
  columns_cons g gs = ap (width_of P) (join_cons g gs) ∙ width_append P g (join_all gs)

  columns_append : (gs hs : List (List Scalar)) → columns (gs ++ hs) ≡ columns gs + columns hs
  columns_append [] hs = omega (arith, columns_nil)
  columns_append (g ∷ gs) hs = omega (arith, columns_cons g (gs ++ hs), columns_cons g gs, columns_append gs hs)

  straddles_append : (start end column : ℕ) (gs hs : List (List Scalar)) → straddles P start end column (gs ++ hs) ≡ (straddles P start end column gs || straddles P start end (column + columns gs) hs)
  unfolding straddles
  straddles_append start end column [] hs = ap (λ (n : ℕ). straddles P start end n hs) (let e : column ≡ column + columns [] = omega (arith, columns_nil) in e)
  straddles_append start end column (g ∷ gs) hs =
      let right : ℕ = column + width_of P g in
      let here : Bool = ltb column start && ltb end right in
      let e : right + columns gs ≡ column + columns (g ∷ gs) = omega (arith, columns_cons g gs) in
      ap (λ (b : Bool). here || b) (straddles_append start end right gs hs ∙ ap (λ (n : ℕ). straddles P start end right gs || straddles P start end n hs) e)
      ∙ sym (or_assoc here (straddles P start end right gs) (straddles P start end (column + columns (g ∷ gs)) hs))

  -- they begin left of the window and end right of it
  straddles_meets : (start end column : ℕ) (gs : List (List Scalar)) → straddles P start end column gs ≡ true → (column < start) × (end < column + columns gs)
  unfolding straddles
  straddles_meets start end column [] e = absurd (true_T e)
  straddles_meets start end column (g ∷ gs) e =
      let right : ℕ = column + width_of P g in
      or_T (ltb column start && ltb end right) (straddles P start end right gs) (true_T e)
      (λ t.
      let p = and_T (ltb column start) (ltb end right) t in
      let a : column < start = ltb→lt column start p.0 in
      let b : end < right = ltb→lt end right p.1 in
      (a, omega (arith, columns_cons g gs)))
      (λ t.
      let q = straddles_meets start end right gs (is_true _ t) in
      (omega (arith, q.0), omega (arith, q.1, columns_cons g gs)))

  ltb_moved : (p a b : ℕ) → ltb (p + a) (p + b) ≡ ltb a b
  ltb_moved p a b = iff (ltb (p + a) (p + b)) (ltb a b) (λ t. lt→ltb a b (let h = ltb→lt (p + a) (p + b) t in omega arith)) (λ t. lt→ltb (p + a) (p + b) (let h = ltb→lt a b t in omega arith))

  straddles_moved : (p start end column : ℕ) (gs : List (List Scalar)) → straddles P (p + start) (p + end) (p + column) gs ≡ straddles P start end column gs
  unfolding straddles
  straddles_moved p start end column [] = refl
  straddles_moved p start end column (g ∷ gs) =
      rw (add_assoc p column (width_of P g), ltb_moved p column start, ltb_moved p end (column + width_of P g), straddles_moved p start end (column + width_of P g) gs)

  -- ---- a window that does not end before it begins

  module _ (start end : ℕ) (ordered : start ≤ end) where
    -- a text at column p, clipped
    clip_refused : (p : ℕ) (x : List Scalar) → refused (clip P (start - p) (end - p - (start - p)) x) ≡ straddles P start end p (clusters P x)
    clip_refused p x =
        let gs : List (List Scalar) = clusters P x in
        let offset : ℕ = start - p in
        let limit : ℕ = offset + (end - p - offset) in
        clip_straddles P offset (end - p - offset) x
        ∙ cases (leb p start)
        (λ e.
        let h = leb-true p start e in
        let a : p + offset ≡ start = omega arith in
        let b : p + limit ≡ end = omega arith in
        rw (a, b, add-zero p) at (sym (straddles_moved p offset limit 0 gs)))
        (λ e.
        let h = leb-false p start e in
        no_more P offset limit 0 gs (omega arith) ∙ sym (no_more P start end p gs (omega arith)))

    -- what is sent of these clusters, and the state after it
    record Draws (t : State) (gs : List (List Scalar)) (d : Bool) (r : Sent) : Type 0 where
      whole : whole r.changes ≡ not (straddles P start end t.position gs)
      position : r.after.position ≡ t.position + columns gs
      drawing : r.after.line_drawing ≡ d

    draws_nothing : (t u : State) → u.position ≡ t.position → Draws t [] u.line_drawing (sent [] u)
    unfolding whole straddles
    draws_nothing t u e = record { whole = refl; position = omega (arith, columns_nil); drawing = refl }

    -- both of two steps
    both_whole : {t : State} {gs : List (List Scalar)} {d : Bool} {q : Sent} → Draws t gs d q → (cs : List Change) (hs : List (List Scalar))
        → whole cs ≡ not (straddles P start end q.after.position hs) → whole (q.changes ++ cs) ≡ not (straddles P start end t.position (gs ++ hs))
    both_whole {t} {gs} {d} {q} x cs hs e =
        let n : ℕ = t.position + columns gs in
        let f : whole cs ≡ not (straddles P start end n hs) = e ∙ ap (λ (n : ℕ). not (straddles P start end n hs)) x.position in
        whole_append q.changes cs ∙ ap₂ (λ (a b : Bool). a && b) x.whole f
        ∙ neither (straddles P start end t.position gs) (straddles P start end n hs) ∙ ap not (sym (straddles_append start end t.position gs hs))

    -- a text that does not meet the window
    beside : (t : State) (x : List Scalar) → meets P start end t (width_of P x) ≡ false → straddles P start end t.position (clusters P x) ≡ false
    beside t x e =
        is_false _ (λ z.
        let q = straddles_meets start end t.position (clusters P x) (is_true _ z) in
        let n : columns (clusters P x) ≡ width_of P x = ap (width_of P) (clusters_all P x) in
        let a : ltb start (t.position + width_of P x) ≡ true = lt-ltb start (t.position + width_of P x) (omega (arith, q.1)) in
        let b : ltb t.position end ≡ true = lt-ltb t.position end (omega (arith, q.0)) in
        true_T (sym (rw (a, b) at e)))

    text_draws : (t : State) (s : Style) (x : List Scalar) → Draws t (clusters P x) t.line_drawing (write_truncated P start end t s x)
    unfolding write_truncated move whole
    text_draws t s x =
        let n : columns (clusters P x) ≡ width_of P x = ap (width_of P) (clusters_all P x) in
        let y = style_whole t s in
        by_case (Draws t (clusters P x) t.line_drawing) (meets P start end t (width_of P x))
        (λ e. record {
          whole = whole_append (style t s).changes (windowed P start end t x ∷ []) ∙ rw y.whole (clipped_whole _ ∙ ap not (clip_refused t.position x));
          position = omega (arith, n, y.position);
          drawing = y.drawing;
        })
        (λ e. record { whole = ap not (sym (beside t x e)); position = omega (arith, n); drawing = refl })

    marks_draw : (s : List Scalar) (t : State) → Draws t (mark_clusters P s) t.line_drawing (write_marks P start end t s)
    unfolding write_marks mark_clusters
    marks_draw [] t = draws_nothing t t refl
    marks_draw (c ∷ s) t =
        let gs : List (List Scalar) = clusters P (scalar_mark c.code) in
        let d = text_draws t attributes.control (scalar_mark c.code) in
        let r : Sent = write_truncated P start end t attributes.control (scalar_mark c.code) in
        let e = marks_draw s r.after in
        record {
          whole = both_whole d (write_marks P start end r.after s).changes (mark_clusters P s) e.whole;
          position = omega (arith, d.position, e.position, columns_append gs (mark_clusters P s));
          drawing = e.drawing ∙ d.drawing;
        }

    module _ (current : Option ℕ) where
      sequence_draws : (q : Sequence) (t : State) (place : ℕ) → Draws t [] (drawing_after P t.line_drawing (escape q)) (sent [] (render_sequence P start end t place q))
      unfolding drawing_after render_sequence
      sequence_draws (sgr os) t place = draws_nothing t _ refl
      sequence_draws (hyperlink a n) t place = draws_nothing t _ refl
      sequence_draws (line_drawing b) t place = draws_nothing t _ refl
      sequence_draws erase_to_end t place = draws_nothing t _ refl
      sequence_draws ignored t place = draws_nothing t t refl

      span_draws : (c : Content) (t : State) (place : ℕ) → Draws t (span_clusters P t.line_drawing t.position c) (drawing_after P t.line_drawing c) (render_span P start end current t place c)
      unfolding span_clusters drawing_after render_span
      span_draws (text m s) t place = text_draws t (text_style P start end current m) (cond t.line_drawing (line_drawn s) s)
      span_draws (control b) t place = text_draws t attributes.control (byte_mark b)
      span_draws (invalid b) t place = text_draws t attributes.control (byte_mark b)
      span_draws (unprintable s) t place = marks_draw s t
      span_draws (escape q) t place = sequence_draws q t place
      span_draws tab t place = text_draws t file (spaces (8 - t.position % 8))
      span_draws crlf t place = draws_nothing t t refl
      span_draws lf t place = draws_nothing t t refl

      spans_whole : (close : State → List Change) → ((t : State) → whole (close t) ≡ true) → (ss : List Span) (t : State)
          → whole (render_spans P start end current close t ss) ≡ not (straddles P start end t.position (line_clusters P t.line_drawing t.position ss))
      unfolding straddles line_clusters render_spans
      spans_whole close f [] t = f t
      spans_whole close f (s ∷ ss) t =
          let gs : List (List Scalar) = span_clusters P t.line_drawing t.position s.content in
          let d = span_draws s.content t s.place in
          let r : Sent = render_span P start end current t s.place s.content in
          let e : line_clusters P r.after.line_drawing r.after.position ss ≡ line_clusters P (drawing_after P t.line_drawing s.content) (t.position + columns gs) ss =
          ap₂ (λ (b : Bool) (n : ℕ). line_clusters P b n ss) d.drawing d.position in
          both_whole d (render_spans P start end current close r.after ss) _ (spans_whole close f ss r.after ∙ ap (λ (hs : List (List Scalar)). not (straddles P start end r.after.position hs)) e)

  -- ---- drawings

  -- a window drawing that passes question 7
  pub render_whole : (start end : ℕ) (current : Option ℕ) (ss : List Span) → (eqb start 0 || leb (start + 1) end) ≡ true → whole (render P start end current ss) ≡ not (straddled P (window_start start) end ss)
  unfolding render straddled initial
  render_whole zero end current ss h = spans_whole 0 end (omega arith) current (close_window end) (window_whole end) ss initial
  render_whole (suc start) end current ss h =
      let k : suc start + 1 ≤ end = leb-true (suc start + 1) end (rw (ne_eqb (suc start) 0 (λ e. omega arith)) at h) in
      whole_append left_arrow _ ∙ rw arrow_whole (spans_whole (suc (suc start)) end (omega arith) current (close_window end) (window_whole end) ss initial)

  -- a row drawing
  module _ (first count width : ℕ) (mode : Mode) (current : Option ℕ) (ss : List Span) where
    abbrev bounds : Row
    bounds = wrap_bounds first count (rows P width mode ss)

    pub wrapped_whole : whole (render_wrapped P first count width mode current ss) ≡ not (straddled P bounds.start bounds.end ss)
    unfolding render_wrapped straddled initial
    wrapped_whole =
        let room : Bool = ltb (bounds.end - bounds.start) (width * count) in
        spans_whole bounds.start bounds.end (bounds_ordered P first count width mode ss) current (close_rows room) (rows_whole room) ss initial
