-- What window drawings and row drawings send: well-formed lists, with texts of no more columns than are drawn.
use Rattle.std.specs.Prelude.{◌≡◌, cond, ◌&&◌, length, eqb}
use Rattle.std.proofs.Math.Path.{refl}
use Prim.Native.Nat.{ℕ, zero, suc, ◌+◌, ◌-◌, ◌*◌, ◌%◌, ◌≤◌, ◌<◌, min, max}
use Rattle.std.proofs.Math.Nat.{zero-add}
use native.Mathlib.Omega.{arith}
use Rattle.std.proofs.Math.Bool.{Bool, not}
use mathlib.Core.List.{List, [], ◌∷◌, ◌++◌}
use Rattle.std.proofs.Math.Option.{Option}
use Rattle.std.proofs.Math.Dec.{ltb}
use Rattle.std.proofs.Common.{ltb→lt}
use Rattle.text.specs.Tests.{and_T, true_T, both, by_case}
use Rattle.text.specs.Each.{All, all_nil, all_cons, all_append}
use Rattle.text.specs.Utf8.{Scalar, bytes_of}
use Rattle.text.specs.Class.{Profile}
use Rattle.text.specs.Class.Ascii.{control_columns, printable_columns}
use Rattle.text.specs.Width.{width_of}
use Rattle.text.specs.Cluster.Walk.{size_is}
use Rattle.spans.specs.Sequence.{sgr, erase_to_end, ignored, hyperlink, line_drawing}
use Rattle.spans.specs.Spans as spans
use Rattle.spans.specs.Spans.{Content, Span}
use Rattle.rows.specs.Rows.{Mode, Row, rows}
use Rattle.drawing.specs.Attributes as style
use Rattle.drawing.specs.Attributes.{Style, number}
use Rattle.drawing.specs.Marks.{scalar_mark}
use Rattle.drawing.specs.Change.{Change, all_attributes, clear_to_end, clipped}
use Rattle.drawing.specs.Draw as draw
use Rattle.drawing.specs.Draw.{State, Sent, sent, move, meets, windowed, write_truncated, write_marks, render_sequence, text_style, render_span, render_spans, initial, left_arrow, right_arrow, close_window, render, wrap_bounds, close_rows, render_wrapped}
use Rattle.screen.specs.Drawn.{ProfileLaws, columns, row_columns}
use Rattle.screen.specs.Drawn.Texts.{Drawable, spaces_drawable, byte_mark_drawable, scalar_mark_drawable}
use Rattle.screen.specs.Drawn.LineDrawing.{text_drawable}
use Rattle.screen.specs.Drawn.Clip.{Clipped, IfSome, left, clip_text_law}
use Rattle.screen.specs.Drawn.Attributes.{InLimits, plain_limits, apply_all_limits, linked_limits, styled_limits, arrows_limits}
use Rattle.screen.specs.Drawn.Spans.{Fit, FitSpans}
use Rattle.screen.specs.Drawn.WellFormed.{Sendable, text, torn, attributes, clear, DrawnList, done, next, arrow, arrow_sendable}

module _ (P : Profile) where
  columns_append : {xs : List Change} → All (Sendable P) xs → (ys : List Change) → columns P (xs ++ ys) ≡ columns P xs + columns P ys
  unfolding columns
  columns_append all_nil ys = omega arith
  columns_append (all_cons (text t h) a) ys = omega (arith, columns_append a ys)
  columns_append (all_cons torn a) ys = columns_append a ys
  columns_append (all_cons (attributes f) a) ys = columns_append a ys
  columns_append (all_cons clear a) ys = columns_append a ys

  list_append : {xs ys : List Change} → All (Sendable P) xs → DrawnList P ys → DrawnList P (xs ++ ys)
  list_append all_nil d = d
  list_append (all_cons s a) d = next s (list_append a d)

-- a drawing's list of at most n columns
pub record ListOf (P : Profile) (n : ℕ) (cs : List Change) : Type 0 where
  pub list : DrawnList P cs
  pub few : columns P cs ≤ n

least : (p end : ℕ) → p < end → min p end ≡ p
least p end h = omega arith

least_of : (n a b s : ℕ) → n ≤ a - s → n ≤ b - s → n ≤ min a b - s
least_of n a b s h k = omega arith

module _ (P : Profile) (H : ProfileLaws P) where
  clipped_sent : {offset limit : ℕ} {x : List Scalar} {o : Option (List Scalar)} → Drawable P x → IfSome (Clipped P offset limit (width_of P x) (length (bytes_of x))) o
      → Sendable P (clipped o) × ((columns P (clipped o ∷ []) ≤ limit - offset) × (columns P (clipped o ∷ []) ≤ width_of P x - offset))
  unfolding clipped columns
  clipped_sent d IfSome.torn = (torn, (omega arith, omega arith))
  clipped_sent {x = x} d (left k) =
      (text k.text (omega (arith, k.size, k.fewer, d.size, H.narrow x d.text.valid, size_is x)), (omega (arith, k.inside), omega (arith, k.fewer)))

  module _ (start end : ℕ) where
    -- the window's columns left of position p
    abbrev before : ℕ → ℕ
    before p = min p end - start

    -- what a step sends takes no more columns than it moves on
    record Step (t : State) (x : Sent) : Type 0 where
      changes : All (Sendable P) x.changes
      limits : InLimits x.after.attrs
      columns : before t.position + columns P x.changes ≤ before x.after.position

    silent : (t u : State) → InLimits u.attrs → t.position ≤ u.position → Step t (sent [] u)
    unfolding columns
    silent t u f h = record { changes = all_nil; limits = f; columns = omega arith }

    -- a style sends attributes alone
    record Styled (t : State) (x : Sent) : Type 0 where
      changes : All (Sendable P) x.changes
      limits : InLimits x.after.attrs
      none : columns P x.changes ≡ 0
      position : x.after.position ≡ t.position

    style_sent : (t : State) (s : Style) → InLimits t.attrs → Styled t (draw.style t s)
    unfolding draw.style columns
    style_sent t s f =
        both (Styled t) (eqb (number t.style) (number s) && not t.changed)
        (record { changes = all_nil; limits = f; none = refl; position = refl })
        (record { changes = all_cons (attributes (styled_limits t.attrs s f)) all_nil; limits = f; none = refl; position = refl })

    -- a text of w columns at p, clipped to v columns
    module _ (p w v : ℕ) (r : p < end) where
      in_text : v ≤ w - (start - p) → start < p + w → p - start + v ≤ p + w - start
      in_text f l = omega arith

      in_window : v ≤ end - p - (start - p) → p - start + v ≤ end - start
      in_window i = omega arith

      clipped_columns : v ≤ end - p - (start - p) → v ≤ w - (start - p) → start < p + w → before p + v ≤ before (p + w)
      clipped_columns i f l = let e : min p end ≡ p = least p end r in rw e (least_of (p - start + v) (p + w) end start (in_text f l) (in_window i))

    write_step : (t : State) (s : Style) {x : List Scalar} → Drawable P x → InLimits t.attrs → Step t (write_truncated P start end t s x)
    unfolding write_truncated move
    write_step t s {x} d f =
        let w : ℕ = width_of P x in
        let p : ℕ = t.position in
        let offset : ℕ = start - p in
        let width : ℕ = end - p - offset in
        let y = style_sent t s f in
        by_case (Step t) (meets P start end t w)
        (λ e.
        let q = and_T (ltb start (p + w)) (ltb p end) (true_T e) in
        let c = clipped_sent d (clip_text_law P H offset width x d.text) in
        let one : All (Sendable P) (windowed P start end t x ∷ []) = all_cons c.0 all_nil in
        let k : columns P (windowed P start end t x ∷ []) ≤ width = within offset width _ c.1.0 in
        record {
          changes = all_append y.changes one;
          limits = y.limits;
          columns = rw (y.position, columns_append P y.changes (windowed P start end t x ∷ []), y.none, zero-add (columns P (windowed P start end t x ∷ [])))
              (clipped_columns p w _ (ltb→lt p end q.1) k c.1.1 (ltb→lt start (p + w) q.0));
        })
        (λ e. silent t _ f (omega arith))
      where
        within : (o n v : ℕ) → v ≤ o + n - o → v ≤ n
        within o n v h = omega arith

    marks_step : (t : State) (s : List Scalar) → InLimits t.attrs → Step t (write_marks P start end t s)
    unfolding write_marks
    marks_step t [] f = silent t t f (omega arith)
    marks_step t (c ∷ s) f =
        let a = write_step t style.control (scalar_mark_drawable P H c.code) f in
        let b = marks_step (write_truncated P start end t style.control (scalar_mark c.code)).after s a.limits in
        record { changes = all_append a.changes b.changes; limits = b.limits; columns = rw (columns_append P a.changes (write_marks P start end _ s).changes) (omega (arith, a.columns, b.columns)) }

    span_step : (current : Option ℕ) (t : State) (place : ℕ) (c : Content) → Fit P c → InLimits t.attrs → Step t (render_span P start end current t place c)
    unfolding render_span render_sequence
    span_step current t place (spans.text m s) x f = write_step t (text_style P start end current m) (let y = x.text m s refl in text_drawable P H t.line_drawing y.0 y.1) f
    span_step current t place (spans.control b) x f = write_step t style.control (byte_mark_drawable P H b (x.control b refl)) f
    span_step current t place (spans.invalid b) x f = write_step t style.control (byte_mark_drawable P H b (x.invalid b refl)) f
    span_step current t place (spans.unprintable s) x f = marks_step t s f
    span_step current t place (spans.escape (sgr os)) x f = silent t _ (apply_all_limits t.attrs f (x.orders os refl)) (omega arith)
    span_step current t place (spans.escape erase_to_end) x f = silent t _ f (omega arith)
    span_step current t place (spans.escape ignored) x f = silent t _ f (omega arith)
    span_step current t place (spans.escape (hyperlink a n)) x f = silent t _ (linked_limits t.attrs (place + a) n f) (omega arith)
    span_step current t place (spans.escape (line_drawing b)) x f = silent t _ f (omega arith)
    span_step current t place spans.tab x f = write_step t style.file (spaces_drawable P H (8 - t.position % 8) (omega arith)) f
    span_step current t place spans.crlf x f = silent t _ f (omega arith)
    span_step current t place spans.lf x f = silent t _ f (omega arith)

    spans_list : (current : Option ℕ) (close : State → List Change) → ((t : State) → ListOf P 0 (close t)) → (t : State) → InLimits t.attrs → {ss : List Span} → FitSpans P ss
        → DrawnList P (render_spans P start end current close t ss) × (before t.position + columns P (render_spans P start end current close t ss) ≤ end - start)
    unfolding render_spans
    spans_list current close c t f all_nil = let l = c t in (l.list, omega (arith, l.few))
    spans_list current close c t f (all_cons {a = s} {s = ss} x a) =
        let y = span_step current t s.place s.content x f in
        let u : State = (render_span P start end current t s.place s.content).after in
        let r = spans_list current close c u y.limits a in
        (list_append P y.changes r.0, rw (columns_append P y.changes (render_spans P start end current close u ss)) (omega (arith, y.columns, r.1)))

  -- ---- windows

  -- the end of a list: what comes before the default attributes
  abbrev Closing : List Change → Type 0
  Closing cs = ListOf P 0 (cs ++ (all_attributes style.plain ∷ []))

  cleared : (b : Bool) (t : State) → Closing (cond b (clear_to_end t.end_of_line ∷ []) [])
  unfolding columns
  cleared b t = both Closing b (record { list = next clear (next (attributes plain_limits) done); few = omega arith }) (record { list = next (attributes plain_limits) done; few = omega arith })

  close_window_law : (end : ℕ) (t : State) → ListOf P 0 (close_window end t)
  unfolding close_window right_arrow columns
  close_window_law end t = both Closing (ltb end t.position) (record { list = arrow; few = omega (arith, control_columns P H.ascii 0x08 (omega arith) refl) }) (cleared (ltb t.position end) t)

  pub window_list : (start end : ℕ) (current : Option ℕ) {ss : List Span} → FitSpans P ss → ListOf P (max 1 (end - start)) (render P start end current ss)
  unfolding render initial left_arrow columns
  window_list zero end current a = let r = spans_list 0 end current (close_window end) (close_window_law end) initial plain_limits a in record { list = r.0; few = omega (arith, r.1) }
  window_list (suc start) end current a =
      let r = spans_list (suc (suc start)) end current (close_window end) (close_window_law end) initial plain_limits a in
      record { list = next (attributes arrows_limits) (next (arrow_sendable P H 0x3C refl) (next (attributes plain_limits) r.0)); few = omega (arith, r.1, printable_columns P H.ascii 0x3C refl) }

  -- ---- rows

  close_rows_law : (room : Bool) (t : State) → ListOf P 0 (close_rows room t)
  unfolding close_rows
  close_rows_law room t = cleared room t

  pub rows_list : (first count width : ℕ) (mode : Mode) (current : Option ℕ) {ss : List Span} → FitSpans P ss → ListOf P (row_columns P first count width mode ss) (render_wrapped P first count width mode current ss)
  unfolding render_wrapped initial row_columns
  rows_list first count width mode current {ss} a =
      let bounds : Row = wrap_bounds first count (rows P width mode ss) in
      let room : Bool = ltb (bounds.end - bounds.start) (width * count) in
      let r = spans_list bounds.start bounds.end current (close_rows room) (close_rows_law room) initial plain_limits a in
      record { list = r.0; few = omega (arith, r.1) }
