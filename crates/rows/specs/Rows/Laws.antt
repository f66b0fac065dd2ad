-- Rows pushed before do not matter to what follows them; a wrap has one row or more.
use Rattle.std.specs.Prelude.{◌≡◌, ℕ, ◌+◌, ◌%◌, ◌-◌, ◌≤◌, Bool, length, eqb, ltb}
use Rattle.std.proofs.Math.Path.{refl, ap}
use Rattle.std.proofs.Common.{◌∙◌, arith}
use Rattle.std.proofs.Math.Bool.{true, false, cond}
use mathlib.Core.List.{List, [], ◌∷◌, ◌++◌}
use Rattle.std.proofs.lemmas.List.{length-reverse}
use Rattle.text.specs.Tests.{both}
use Rattle.text.specs.Utf8.{Scalar}
use Rattle.text.specs.Class.{Profile}
use Rattle.text.specs.Width.{width_of}
use Rattle.text.specs.Cluster.{clusters}
use Rattle.rows.specs.Words.{Word, words}
use Rattle.spans.specs.Spans.{Span}
use Rattle.rows.specs.Marks.{drawn_columns}
use Rattle.rows.specs.Rows.{Row, Wrap, wrap, fits_row, unbroken, tabbed, pushed, by_clusters, word_end, long_word, one_word, by_words, split_text, splits, last_row, Mode, unwrapped, grapheme_boundary, word_boundary, drawn_grapheme_boundary, drawn_word_boundary, eight, wrapped, rows}

-- rows pushed before
unfoldable pub over : List Row → Wrap → Wrap
over rs t = wrap (t.rows ++ rs) t.start t.position

-- they are passed over
abbrev pub Natural : (Wrap → Wrap) → Type 0
Natural f = (rs : List Row) (t : Wrap) → f (over rs t) ≡ over rs (f t)

cond_over : (rs : List Row) (b : Bool) (x y : Wrap) → cond b (over rs x) (over rs y) ≡ over rs (cond b x y)
cond_over rs true x y = refl
cond_over rs false x y = refl

pub unbroken_over : (width n : ℕ) → Natural (λ (t : Wrap). unbroken width t n)
unfolding unbroken over
unbroken_over width n rs t = cond_over rs (fits_row width t (t.position + n)) _ _

pub tabbed_over : (width : ℕ) → Natural (tabbed width)
unfolding tabbed over
tabbed_over width rs t = cond_over rs (fits_row width t (t.position + (8 - t.position % 8))) _ _

pub pushed_over : Natural pushed
unfolding pushed over
pushed_over rs t = cond_over rs (eqb t.start t.position) _ _

module _ (P : Profile) (width : ℕ) where
  pub by_clusters_over : (gs : List (List Scalar)) → Natural (λ (t : Wrap). by_clusters P width t gs)
  unfolding by_clusters
  by_clusters_over [] rs t = refl
  by_clusters_over (g ∷ gs) rs t = ap (λ (x : Wrap). by_clusters P width x gs) (unbroken_over width (width_of P g) rs t) ∙ by_clusters_over gs rs (unbroken width t (width_of P g))

  pub long_word_over : (v : Word) → Natural (λ (t : Wrap). long_word P width t v)
  unfolding long_word over
  long_word_over v rs t =
      ap (λ (x : Wrap). cond (fits_row width t (word_end P width t v)) (over rs (wrap t.rows t.start (word_end P width t v))) x)
      (ap (λ (x : Wrap). by_clusters P width x (clusters P v.sep)) (by_clusters_over (clusters P v.word) rs t)
      ∙ by_clusters_over (clusters P v.sep) rs (by_clusters P width t (clusters P v.word)))
      ∙ cond_over rs (fits_row width t (word_end P width t v)) _ _

  pub one_word_over : (v : Word) → Natural (λ (t : Wrap). one_word P width t v)
  unfolding one_word over
  one_word_over v rs t =
      ap (λ (x : Wrap). cond (fits_row width t (word_end P width t v)) (over rs (wrap t.rows t.start (word_end P width t v))) x)
      (ap (λ (x : Wrap). long_word P width x v) (pushed_over rs t) ∙ long_word_over v rs (pushed t))
      ∙ cond_over rs (fits_row width t (word_end P width t v)) _ _

  pub by_words_over : (vs : List Word) → Natural (λ (t : Wrap). by_words P width t vs)
  unfolding by_words
  by_words_over [] rs t = refl
  by_words_over (v ∷ vs) rs t = ap (λ (x : Wrap). by_words P width x vs) (one_word_over v rs t) ∙ by_words_over vs rs (one_word P width t v)

  pub split_text_over : (w : Bool) (s : List Scalar) → Natural (λ (t : Wrap). split_text P width w t s)
  unfolding split_text
  split_text_over true s rs t = by_words_over (words s) rs t
  split_text_over false s rs t = by_clusters_over (clusters P s) rs t

-- ---- a wrap has one row or more

last_some : (s p : ℕ) (rs : List Row) → 1 ≤ length (last_row s p rs)
unfolding last_row
last_some s p [] = omega arith
last_some s p (r ∷ rs) = both (λ (x : List Row). 1 ≤ length x) (ltb s p) (omega arith) (omega arith)

wrapped_some : (P : Profile) (count : List Scalar → ℕ) (width : ℕ) (w : Bool) (ss : List Span) → 1 ≤ length (wrapped P count width w ss)
unfolding wrapped
wrapped_some P count width w ss = let t : Wrap = splits P count width w (wrap [] 0 0) ss in rw length-reverse (last_some t.start t.position t.rows)

pub rows_some : (P : Profile) (width : ℕ) (mode : Mode) (ss : List Span) → 1 ≤ length (rows P width mode ss)
unfolding rows
rows_some P width unwrapped ss = omega arith
rows_some P width grapheme_boundary ss = wrapped_some P eight width false ss
rows_some P width word_boundary ss = wrapped_some P eight width true ss
rows_some P width drawn_grapheme_boundary ss = wrapped_some P drawn_columns width false ss
rows_some P width drawn_word_boundary ss = wrapped_some P drawn_columns width true ss
