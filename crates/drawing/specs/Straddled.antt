-- Question 8 of document 01: a drawn cluster that begins left of the window and ends right of it. All numbers are columns.
use Rattle.std.specs.Prelude.{ℕ, ◌+◌, ◌-◌, ◌%◌, Bool, cond, ◌&&◌, ◌||◌}
use Rattle.std.proofs.Math.Bool.{false}
use mathlib.Core.List.{List, [], ◌∷◌, ◌++◌}
use Rattle.std.proofs.Math.Dec.{ltb}
use Rattle.text.specs.Utf8.{Scalar}
use Rattle.text.specs.Class.{Profile}
use Rattle.text.specs.Width.{width_of}
use Rattle.text.specs.Cluster.{clusters, join_all}
use Rattle.spans.specs.Sequence.{sgr, erase_to_end, ignored, hyperlink, line_drawing}
use Rattle.spans.specs.Spans.{Content, text, control, invalid, unprintable, escape, tab, crlf, lf, Span}
use Rattle.drawing.specs.Clip.{spaces}
use Rattle.drawing.specs.Marks.{byte_mark, scalar_mark, line_drawn}
pub mod Laws
pub mod Examples

module _ (P : Profile) where
  -- of clusters side by side, the first at `column`, one begins left of `start` and ends right of `end`
  unfoldable pub straddles : (start end column : ℕ) → List (List Scalar) → Bool
  unfolding width_of
  straddles start end column [] = false
  straddles start end column (g ∷ gs) = (ltb column start && ltb end (column + width_of P g)) || straddles start end (column + width_of P g) gs

  -- ---- the clusters of a line's spans, as they are drawn

  -- a mark for each scalar of an Unprintable span
  unfoldable pub mark_clusters : List Scalar → List (List Scalar)
  unfolding clusters scalar_mark
  mark_clusters [] = []
  mark_clusters (c ∷ s) = clusters P (scalar_mark c.code) ++ mark_clusters s

  -- of a span at `column`, while line drawing is on or off
  unfoldable pub span_clusters : Bool → (column : ℕ) → Content → List (List Scalar)
  unfolding clusters line_drawn byte_mark mark_clusters
  span_clusters drawing column (text m s) = clusters P (cond drawing (line_drawn s) s)
  span_clusters drawing column (control b) = clusters P (byte_mark b)
  span_clusters drawing column (invalid b) = clusters P (byte_mark b)
  span_clusters drawing column (unprintable s) = mark_clusters s
  span_clusters drawing column (escape e) = []
  span_clusters drawing column tab = clusters P (spaces (8 - column % 8))
  span_clusters drawing column crlf = []
  span_clusters drawing column lf = []

  -- whether line drawing is on after a span
  unfoldable pub drawing_after : Bool → Content → Bool
  drawing_after drawing (escape (line_drawing on)) = on
  drawing_after drawing (escape (sgr os)) = drawing
  drawing_after drawing (escape (hyperlink a n)) = drawing
  drawing_after drawing (escape erase_to_end) = drawing
  drawing_after drawing (escape ignored) = drawing
  drawing_after drawing (text m s) = drawing
  drawing_after drawing (control b) = drawing
  drawing_after drawing (invalid b) = drawing
  drawing_after drawing (unprintable s) = drawing
  drawing_after drawing tab = drawing
  drawing_after drawing crlf = drawing
  drawing_after drawing lf = drawing

  -- of spans from `column` on
  unfoldable pub line_clusters : Bool → (column : ℕ) → List Span → List (List Scalar)
  unfolding span_clusters drawing_after width_of join_all
  line_clusters drawing column [] = []
  line_clusters drawing column (s ∷ ss) =
      let gs : List (List Scalar) = span_clusters drawing column s.content in
      gs ++ line_clusters (drawing_after drawing s.content) (column + width_of P (join_all gs)) ss

  -- a cluster that a line's spans draw begins left of the window and ends right of it
  unfoldable pub straddled : (start end : ℕ) → List Span → Bool
  unfolding straddles line_clusters
  straddled start end ss = straddles start end 0 (line_clusters false 0 ss)
