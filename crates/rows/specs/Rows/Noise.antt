-- Wrapping: which noise bytes a line holds does not matter.
use Rattle.std.specs.Prelude.{◌≡◌, ℕ, Bool, true, false, get_or}
use Rattle.std.proofs.Math.Path.{refl, ap}
use mathlib.Core.List.{List, [], reverse}
use Rattle.text.specs.Each.{Each, nil, cons}
use Rattle.text.specs.Utf8.{Scalar}
use Rattle.text.specs.Class.{Profile}
use Rattle.spans.specs.Spans.{Span, invalid}
use Rattle.spans.specs.Spans.Noise.{TwinSpan}
use Rattle.rows.specs.Rows.{Wrap, wrap, split, splits, last_row, wrapped, Mode, unwrapped, grapheme_boundary, word_boundary, drawn_grapheme_boundary, drawn_word_boundary, rows}

module _ (P : Profile) (count : List Scalar → ℕ) (width : ℕ) {l m : List ℕ} where
  splits_twin : (w : Bool) (t : Wrap) {ss ts : List Span} → Each (TwinSpan l m) ss ts → splits P count width w t ss ≡ splits P count width w t ts
  unfolding splits split
  splits_twin w t nil = refl
  splits_twin w t (cons (TwinSpan.same {s = s}) e) = splits_twin w (split P count width w t s.content) e
  splits_twin w t (cons (TwinSpan.exchanged p h k) e) = splits_twin w (split P count width w t (invalid (get_or l p 0))) e

  wrapped_twin : (w : Bool) {ss ts : List Span} → Each (TwinSpan l m) ss ts → wrapped P count width w ss ≡ wrapped P count width w ts
  unfolding wrapped
  wrapped_twin w e = ap (λ (t : Wrap). reverse (last_row t.start t.position t.rows)) (splits_twin w (wrap [] 0 0) e)

pub rows_twin : (P : Profile) (width : ℕ) {l m : List ℕ} (mode : Mode) {ss ts : List Span} → Each (TwinSpan l m) ss ts → rows P width mode ss ≡ rows P width mode ts
unfolding rows
rows_twin P width unwrapped e = refl
rows_twin P width grapheme_boundary e = wrapped_twin P _ width false e
rows_twin P width word_boundary e = wrapped_twin P _ width true e
rows_twin P width drawn_grapheme_boundary e = wrapped_twin P _ width false e
rows_twin P width drawn_word_boundary e = wrapped_twin P _ width true e
