-- What spans draw: clusters of width above 0, and as many columns as modes 3 and 4 count.
use Rattle.std.specs.Prelude.{◌≡◌, refl, Bool, true, false, cond, length}
use Rattle.std.proofs.Common.{sym, ap₂, ◌∙◌, arith}
use Rattle.std.proofs.Math.Path.{ap}
use Prim.Native.Nat.{ℕ, zero, suc, ◌+◌, ◌-◌, ◌%◌, ◌≤◌, ◌<◌}
use mathlib.Core.List.{List, [], ◌∷◌, ◌++◌, map}
use Rattle.std.proofs.Math.Option.{Option}
use Rattle.std.proofs.lemmas.List.{length-replicate}
use Rattle.text.specs.Tests.{every}
use Rattle.text.specs.Each.{Each, nil, cons, All, all_nil, all_cons, all_append}
use Rattle.text.specs.Utf8.{Scalar, ascii}
use Rattle.text.specs.Class.{Profile, in_any}
use Rattle.text.specs.Class.Laws.{other_number}
use Rattle.text.specs.Width.{width_of}
use Rattle.text.specs.Width.Laws.{width_cons, width_nil}
use Rattle.text.specs.Cluster.{clusters}
use Rattle.text.specs.Cluster.Laws.{clusters_nil}
use Rattle.text.specs.Cluster.Parts.{Wide, other_wide}
use Rattle.spans.specs.Spans as spans
use Rattle.spans.specs.Spans.Laws.{map_append}
use Rattle.spans.specs.Spans.{Content, text, invalid, unprintable, escape, tab, crlf, lf, Span}
use Rattle.rows.specs.Marks.{drawn_columns}
use Rattle.drawing.specs.declared.attributes.Attributes.{Attributes}
use Rattle.drawing.specs.Attributes.{Style, control, styled}
use Rattle.drawing.specs.Clip.{spaces}
use Rattle.drawing.specs.Marks.{hex_digit, byte_mark, scalar_mark, line_drawn}
use Rattle.drawing.specs.Marks.LineDrawn.{AlikeReplaced, line_drawn_widths}
use Rattle.drawing.specs.Marks.Scalars.{digit_code, byte_scalars, scalar_scalars, scalar_length}
use Rattle.columns.specs.Columns.{span_columns, last_column_from}
use Rattle.columns.specs.Columns.Wrapping.{total, widths, widths_total}
use Rattle.picture.specs.Conditions.{composed, PlainComposed, Drawable}
use Rattle.picture.specs.Picture.{Cell}
use Rattle.picture.specs.Picture.Window.{SomeWidth, total_append, columns, columns_append}
use Rattle.picture.specs.Picture.LineCells.{Rendition, rendition_after, cell_width, text_cells, mark_cells, span_cells, line_cells, cells_widths}

-- ---- marks and tabs

abbrev Composed : List Scalar → Type 0
Composed s = All (λ (c : Scalar). in_any composed c.code ≡ true) s

digit : (d : ℕ) → d < 16 → in_any composed (hex_digit d).code ≡ true
unfolding composed in_any every
digit = digit_code (in_any composed) tt tt

spaces_composed : (n : ℕ) → Composed (spaces n)
unfolding composed in_any
spaces_composed zero = all_nil
spaces_composed (suc n) = all_cons refl (spaces_composed n)

byte_composed : (b : ℕ) → b ≤ 0xFF → Composed (byte_mark b)
unfolding composed in_any
byte_composed = byte_scalars (λ (c : Scalar). in_any composed c.code ≡ true) digit refl refl

scalar_composed : (v : ℕ) → Composed (scalar_mark v)
unfolding composed in_any
scalar_composed = scalar_scalars (λ (c : Scalar). in_any composed c.code ≡ true) digit refl refl refl refl

-- widths above 0, n in all
record Takes (n : ℕ) (ws : List ℕ) : Type 0 where
  wide : SomeWidth ws
  total : total ws ≡ n

takes_nothing : Takes 0 []
unfolding total
takes_nothing = record { wide = all_nil; total = refl }

takes_both : {m n : ℕ} {vs ws : List ℕ} → Takes m vs → Takes n ws → Takes (m + n) (vs ++ ws)
takes_both {vs = vs} {ws = ws} t u = record { wide = all_append t.wide u.wide; total = total_append vs ws ∙ ap₂ (λ (m n : ℕ). m + n) t.total u.total }

module _ (P : Profile) where
  wide_widths : {gs : List (List Scalar)} → Wide P gs → SomeWidth (widths P gs)
  wide_widths all_nil = all_nil
  wide_widths (all_cons {a = g} w a) = all_cons {a = width_of P g} w (wide_widths a)

  module _ (H : PlainComposed P) where
    composed_wide : {s : List Scalar} → Composed s → Wide P (clusters P s) × (width_of P s ≡ length s)
    composed_wide all_nil = (rw (clusters_nil P) all_nil, width_nil P)
    composed_wide (all_cons {a = c} {s = s} q a) =
        let h = H.composed c.code q in
        let r = composed_wide a in
        (other_wide P c s (h.class ∙ other_number) (omega (arith, h.width)) r.0, rw (width_cons P c s, h.width, r.1) (omega arith))

    composed_takes : {n : ℕ} (s : List Scalar) → Composed s → length s ≡ n → Takes n (widths P (clusters P s))
    composed_takes s a e = let r = composed_wide a in record { wide = wide_widths r.0; total = widths_total P s ∙ r.1 ∙ e }

    -- ---- line drawing

    alike : AlikeReplaced P
    alike = record { class = λ v e. let h = H.replaced v e in h.0.class ∙ sym h.1.class; width = λ v e. let h = H.replaced v e in h.0.width ∙ sym h.1.width }

    each_widths : {gs hs : List (List Scalar)} → Each (λ (g h : List Scalar). width_of P g ≡ width_of P h) gs hs → widths P gs ≡ widths P hs
    each_widths nil = refl
    each_widths (cons r e) = ap₂ (λ (n : ℕ) (ns : List ℕ). n ∷ ns) r (each_widths e)

    -- line-drawn text has the columns of the text
    pub text_widths : (b : Bool) (s : List Scalar) → widths P (clusters P s) ≡ widths P (clusters P (cond b (line_drawn s) s))
    text_widths true s = each_widths (line_drawn_widths P alike s)
    text_widths false s = refl

    -- ---- cells

    text_cells_law : (a : Attributes) (s : Style) {n : ℕ} (x : List Scalar) → Takes n (widths P (clusters P x)) → Takes n (map (cell_width P) (text_cells P a s x))
    text_cells_law a s x t = rw (cells_widths P (styled a s) (clusters P x)) t

    mark_cells_law : (a : Attributes) (s : List Scalar) → Takes (drawn_columns s) (map (cell_width P) (mark_cells P a s))
    unfolding drawn_columns mark_cells
    mark_cells_law a [] = takes_nothing
    mark_cells_law a (c ∷ s) =
        let x : List Scalar = scalar_mark c.code in
        rw (map_append (cell_width P) (text_cells P a control x) (mark_cells P a s)) (takes_both (text_cells_law a control x (composed_takes x (scalar_composed c.code) (scalar_length c.code))) (mark_cells_law a s))

    module _ (current : Option ℕ) where
      span_takes : (r : Rendition) (p : ℕ) (c : Content) → Drawable P c → Takes (span_columns P drawn_columns p c) (map (cell_width P) (span_cells P current r p c))
      unfolding byte_mark span_columns span_cells
      span_takes r p (text m s) d =
          text_cells_law r.attrs _ (cond r.line_drawing (line_drawn s) s) (rw (← text_widths r.line_drawing s) (record { wide = wide_widths (d.wide m s refl); total = widths_total P s }))
      span_takes r p (spans.control b) d = text_cells_law r.attrs _ (byte_mark b) (composed_takes (byte_mark b) (byte_composed b (d.control b refl)) refl)
      span_takes r p (invalid b) d = text_cells_law r.attrs _ (byte_mark b) (composed_takes (byte_mark b) (byte_composed b (d.invalid b refl)) refl)
      span_takes r p (unprintable s) d = mark_cells_law r.attrs s
      span_takes r p (escape e) d = takes_nothing
      span_takes r p tab d = text_cells_law r.attrs _ (spaces (8 - p % 8)) (composed_takes (spaces (8 - p % 8)) (spaces_composed (8 - p % 8)) (length-replicate (8 - p % 8) (ascii 0x20)))
      span_takes r p crlf d = takes_nothing
      span_takes r p lf d = takes_nothing

      pub span_columns_law : (r : Rendition) (p : ℕ) (c : Content) → Drawable P c → columns (cell_width P) (span_cells P current r p c) ≡ span_columns P drawn_columns p c
      span_columns_law r p c d = (span_takes r p c d).total

      pub line_widths : {ss : List Span} → All (λ (s : Span). Drawable P s.content) ss → (r : Rendition) (p : ℕ)
          → SomeWidth (map (cell_width P) (line_cells P current r p ss)) × (p + columns (cell_width P) (line_cells P current r p ss) ≡ last_column_from P drawn_columns p ss)
      unfolding total last_column_from line_cells
      line_widths all_nil r p = (all_nil, omega arith)
      line_widths (all_cons {a = s} {s = ss} d a) r p =
          let xs : List Cell = span_cells P current r p s.content in
          let q : ℕ = p + columns (cell_width P) xs in
          let n : Rendition = rendition_after r s.place s.content in
          let ys : List Cell = line_cells P current n q ss in
          let t = span_takes r p s.content d in
          let u = line_widths a n q in (
            rw (map_append (cell_width P) xs ys) (all_append t.wide u.0),
            omega (arith, columns_append (cell_width P) xs ys, u.1) ∙ ap (λ (m : ℕ). last_column_from P drawn_columns (p + m) ss) t.total,
          )
