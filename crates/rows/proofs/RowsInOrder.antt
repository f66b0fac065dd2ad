-- A line's rows run end to end from column 0.
use Rattle.std.specs.Prelude.{ℕ, ◌+◌, ◌-◌, ◌%◌, ◌≤◌, Bool, eqb, ltb}
use Rattle.std.proofs.Common.{arith}
use Rattle.std.proofs.Math.Bool.{true, false}
use mathlib.Core.List.{List, [], ◌∷◌, reverse, reverse_aux}
use Rattle.text.specs.Tests.{both}
use Rattle.text.specs.Utf8.{Scalar}
use Rattle.text.specs.Class.{Profile}
use Rattle.text.specs.Width.{width_of}
use Rattle.text.specs.Cluster.{clusters}
use Rattle.spans.specs.Spans.{Content, text, control, invalid, unprintable, escape, tab, crlf, lf, Span}
use Rattle.rows.specs.Marks.{drawn_columns}
use Rattle.rows.specs.Words.{Word, words}
use Rattle.rows.specs.Rows.{Row, row, Wrap, wrap, fits_row, unbroken, tabbed, pushed, by_clusters, word_end, long_word, one_word, by_words, split_text, split, splits, last_row, Mode, unwrapped, grapheme_boundary, word_boundary, drawn_grapheme_boundary, drawn_word_boundary, eight, wrapped, rows, EndToEnd, last, next}
use Rattle.rows.specs.Rows.InOrder.{FromZero}

-- rows pushed, the last one first, up to column z
data RowsTo : ℕ → List Row → Type 0 where
  none : RowsTo 0 []
  more : {a z : ℕ} {rs : List Row} → a ≤ z → RowsTo a rs → RowsTo z (row a z ∷ rs)

record Wrapping (t : Wrap) : Type 0 where
  rows : RowsTo t.start t.rows
  ordered : t.start ≤ t.position

-- the present row goes on, is pushed, or is pushed as far as a column right of the position
goes_on : (t : Wrap) (p : ℕ) → t.position ≤ p → Wrapping t → Wrapping (wrap t.rows t.start p)
goes_on t p h w = record { rows = w.rows; ordered = omega (arith, w.ordered) }

ends : (t : Wrap) (e p : ℕ) → t.position ≤ e → e ≤ p → Wrapping t → Wrapping (wrap (row t.start e ∷ t.rows) e p)
ends t e p h k w = let f : t.start ≤ e = omega (arith, w.ordered) in record { rows = more f w.rows; ordered = k }

unbroken_wraps : (width n : ℕ) (t : Wrap) → Wrapping t → Wrapping (unbroken width t n)
unfolding unbroken
unbroken_wraps width n t w = both Wrapping (fits_row width t (t.position + n)) (goes_on t (t.position + n) (omega arith) w) (ends t t.position (t.position + n) (omega arith) (omega arith) w)

tabbed_wraps : (width : ℕ) (t : Wrap) → Wrapping t → Wrapping (tabbed width t)
unfolding tabbed
tabbed_wraps width t w =
    let end : ℕ = t.position + (8 - t.position % 8) in
    both Wrapping (fits_row width t end) (goes_on t end (omega arith) w) (ends t end end (omega arith) (omega arith) w)

pushed_wraps : (t : Wrap) → Wrapping t → Wrapping (pushed t)
unfolding pushed
pushed_wraps t w = both Wrapping (eqb t.start t.position) w (ends t t.position t.position (omega arith) (omega arith) w)

module _ (P : Profile) (width : ℕ) where
  clusters_wrap : (gs : List (List Scalar)) (t : Wrap) → Wrapping t → Wrapping (by_clusters P width t gs)
  unfolding by_clusters
  clusters_wrap [] t w = w
  clusters_wrap (g ∷ gs) t w = clusters_wrap gs (unbroken width t (width_of P g)) (unbroken_wraps width (width_of P g) t w)

  long_word_wraps : (v : Word) (t : Wrap) → Wrapping t → Wrapping (long_word P width t v)
  unfolding long_word
  long_word_wraps v t w =
      both Wrapping (fits_row width t (word_end P width t v)) (goes_on t (word_end P width t v) (omega arith) w)
      (clusters_wrap (clusters P v.sep) (by_clusters P width t (clusters P v.word)) (clusters_wrap (clusters P v.word) t w))

  one_word_wraps : (v : Word) (t : Wrap) → Wrapping t → Wrapping (one_word P width t v)
  unfolding one_word
  one_word_wraps v t w = both Wrapping (fits_row width t (word_end P width t v)) (goes_on t (word_end P width t v) (omega arith) w) (long_word_wraps v (pushed t) (pushed_wraps t w))

  words_wrap : (vs : List Word) (t : Wrap) → Wrapping t → Wrapping (by_words P width t vs)
  unfolding by_words
  words_wrap [] t w = w
  words_wrap (v ∷ vs) t w = words_wrap vs (one_word P width t v) (one_word_wraps v t w)

  text_wraps : (b : Bool) (s : List Scalar) (t : Wrap) → Wrapping t → Wrapping (split_text P width b t s)
  unfolding split_text
  text_wraps true s t w = words_wrap (words s) t w
  text_wraps false s t w = clusters_wrap (clusters P s) t w

  module _ (count : List Scalar → ℕ) (b : Bool) where
    span_wraps : (c : Content) (t : Wrap) → Wrapping t → Wrapping (split P count width b t c)
    unfolding split
    span_wraps (text m s) t w = text_wraps b s t w
    span_wraps (control x) t w = unbroken_wraps width 4 t w
    span_wraps (invalid x) t w = unbroken_wraps width 4 t w
    span_wraps (unprintable s) t w = unbroken_wraps width (count s) t w
    span_wraps (escape x) t w = w
    span_wraps tab t w = tabbed_wraps width t w
    span_wraps crlf t w = w
    span_wraps lf t w = w

    spans_wrap : (ss : List Span) (t : Wrap) → Wrapping t → Wrapping (splits P count width b t ss)
    unfolding splits
    spans_wrap [] t w = w
    spans_wrap (s ∷ ss) t w = spans_wrap ss (split P count width b t s.content) (span_wraps s.content t w)

-- ---- make_wrap

turned : {a z : ℕ} {rs qs : List Row} → RowsTo a rs → EndToEnd a z qs → FromZero (reverse_aux rs qs)
turned {z = z} none r = record { end = z; run = r }
turned (more h u) r = turned u (next h r)

last_wraps : (s p : ℕ) {rs : List Row} → RowsTo s rs → s ≤ p → FromZero (reverse (last_row s p rs))
unfolding last_row
last_wraps s p none h = turned none (last h)
last_wraps s p (more k u) h = both (λ (rs : List Row). FromZero (reverse rs)) (ltb s p) (turned (more k u) (last h)) (turned u (last k))

wrapped_end_to_end : (P : Profile) (count : List Scalar → ℕ) (width : ℕ) (b : Bool) (ss : List Span) → FromZero (wrapped P count width b ss)
unfolding wrapped
wrapped_end_to_end P count width b ss =
    let t : Wrap = splits P count width b (wrap [] 0 0) ss in
    let w : Wrapping t = spans_wrap P width count b ss (wrap [] 0 0) (record { rows = none; ordered = omega arith }) in
    last_wraps t.start t.position w.rows w.ordered

pub rows_end_to_end : (P : Profile) (width : ℕ) (mode : Mode) (ss : List Span) → FromZero (rows P width mode ss)
unfolding rows
rows_end_to_end P width unwrapped ss = let h : 0 ≤ 0xFFFF_FFFF_FFFF_FFFF = omega arith in record { end = 0xFFFF_FFFF_FFFF_FFFF; run = last h }
rows_end_to_end P width grapheme_boundary ss = wrapped_end_to_end P eight width false ss
rows_end_to_end P width word_boundary ss = wrapped_end_to_end P eight width true ss
rows_end_to_end P width drawn_grapheme_boundary ss = wrapped_end_to_end P drawn_columns width false ss
rows_end_to_end P width drawn_word_boundary ss = wrapped_end_to_end P drawn_columns width true ss
