-- The cells of a line: the clusters that its spans draw, with their attributes, whatever the window.
use Rattle.std.specs.Prelude.{◌≡◌, ℕ, ◌+◌, ◌-◌, ◌%◌, Bool, cond, ◌&&◌, leb}
use Rattle.std.proofs.Math.Path.{refl}
use Rattle.std.proofs.Common.{ap}
use mathlib.Core.List.{List, [], ◌∷◌, ◌++◌, map}
use Rattle.std.proofs.Math.Option.{Option}
use Rattle.std.proofs.Math.Dec.{ltb}
use Rattle.text.specs.Tests.{cases}
use Rattle.text.specs.Utf8.{Scalar}
use Rattle.text.specs.Class.{Profile}
use Rattle.text.specs.Width.{width_of}
use Rattle.text.specs.Cluster.{clusters}
use Rattle.spans.specs.Sequence.{sgr, erase_to_end, ignored, hyperlink, line_drawing}
use Rattle.spans.specs.Spans.{Content, text, control, invalid, unprintable, escape, tab, crlf, lf, Span}
use Rattle.drawing.specs.declared.attributes.Attributes.{Attributes}
use Rattle.drawing.specs.Attributes as attributes
use Rattle.drawing.specs.Attributes.{Style, file, styled, apply_all, linked}
use Rattle.drawing.specs.Clip.{spaces}
use Rattle.drawing.specs.Marks.{byte_mark, scalar_mark, line_drawn}
use Rattle.drawing.specs.Draw.{State, text_style}
use Rattle.columns.specs.Columns.Wrapping.{widths}
use Rattle.picture.specs.Picture.{Cell, cell}
use Rattle.picture.specs.Picture.Window.{columns, inside}

-- what sequences set: the attributes, and line drawing
pub record Rendition : Type 0 where
  pub attrs : Attributes
  pub line_drawing : Bool

abbrev pub rendition : Attributes → Bool → Rendition
rendition a d = record { attrs = a; line_drawing = d }

abbrev pub rendition_of : State → Rendition
rendition_of t = rendition t.attrs t.line_drawing

-- behind a span at a byte place
unfoldable pub rendition_after : Rendition → ℕ → Content → Rendition
unfolding apply_all linked
rendition_after r place (text m s) = r
rendition_after r place (control b) = r
rendition_after r place (invalid b) = r
rendition_after r place (unprintable s) = r
rendition_after r place (escape (sgr os)) = rendition (apply_all r.attrs os) r.line_drawing
rendition_after r place (escape (hyperlink a n)) = rendition (linked r.attrs (place + a) n) r.line_drawing
rendition_after r place (escape (line_drawing b)) = rendition r.attrs b
rendition_after r place (escape erase_to_end) = r
rendition_after r place (escape ignored) = r
rendition_after r place tab = r
rendition_after r place crlf = r
rendition_after r place lf = r

module _ (P : Profile) where
  abbrev pub cell_width : Cell → ℕ
  cell_width x = width_of P x.cluster

  abbrev pub text_cells : Attributes → Style → List Scalar → List Cell
  text_cells a s x = map (cell (styled a s)) (clusters P x)

  unfoldable pub mark_cells : Attributes → List Scalar → List Cell
  mark_cells a [] = []
  mark_cells a (c ∷ s) = text_cells a attributes.control (scalar_mark c.code) ++ mark_cells a s

  module _ (current : Option ℕ) where
    -- of a span that begins at column p
    unfoldable pub span_cells : Rendition → ℕ → Content → List Cell
    unfolding mark_cells
    span_cells r p (text m s) = text_cells r.attrs (text_style P 0 0 current m) (cond r.line_drawing (line_drawn s) s)
    span_cells r p (control b) = text_cells r.attrs attributes.control (byte_mark b)
    span_cells r p (invalid b) = text_cells r.attrs attributes.control (byte_mark b)
    span_cells r p (unprintable s) = mark_cells r.attrs s
    span_cells r p (escape e) = []
    span_cells r p tab = text_cells r.attrs file (spaces (8 - p % 8))
    span_cells r p crlf = []
    span_cells r p lf = []

    -- of spans from column p on
    unfoldable pub line_cells : Rendition → ℕ → List Span → List Cell
    unfolding span_cells rendition_after
    line_cells r p [] = []
    line_cells r p (s ∷ ss) = span_cells r p s.content ++ line_cells (rendition_after r s.place s.content) (p + columns cell_width (span_cells r p s.content)) ss

  -- ---- the cells of one text

  module _ (a : Attributes) where
    pub cells_widths : (gs : List (List Scalar)) → map cell_width (map (cell a) gs) ≡ widths P gs
    cells_widths [] = refl
    cells_widths (g ∷ gs) = ap (λ (ws : List ℕ). width_of P g ∷ ws) (cells_widths gs)

    pub cells_inside : (o l c : ℕ) (gs : List (List Scalar)) → inside cell_width o l c (map (cell a) gs) ≡ map (cell a) (inside (width_of P) o l c gs)
    unfolding inside
    cells_inside o l c [] = refl
    cells_inside o l c (g ∷ gs) = let e = cells_inside o l (c + width_of P g) gs in cases (leb o c && ltb c l) (λ t. rw (t, e)) (λ t. rw (t, e))
