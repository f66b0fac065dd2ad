-- Wrapping ends at most two rows at each part: one before a word, and one at each of its clusters.
use Rattle.std.proofs.Math.Path.{◌≡◌, refl, sym, ap}
use Rattle.std.proofs.Common.{◌∙◌}
use Rattle.std.specs.Prelude.{ℕ, ◌+◌, ◌-◌, ◌*◌, ◌%◌, ◌≤◌, Bool, eqb, ltb}
use native.Mathlib.Omega.{arith}
use Rattle.std.proofs.Math.Bool.{true, false}
use mathlib.Core.List.{List, [], ◌∷◌}
use Rattle.std.proofs.Math.ListN.{length, length-append, length-reverse}
use Rattle.text.specs.Tests.{both}
use Rattle.text.specs.Utf8.{Scalar}
use Rattle.text.specs.Class.{Profile}
use Rattle.text.specs.Width.{width_of}
use Rattle.text.specs.Cluster.{joins_next, add_to_cluster, clusters_after, clusters}
use Rattle.spans.specs.Spans.{Content, text, control, invalid, unprintable, escape, tab, crlf, lf, Span}
use Rattle.rows.specs.Marks.{drawn_columns}
use Rattle.rows.specs.Words.{Word, words}
use Rattle.rows.specs.Words.Laws.{first_word, rest_words, first_word_all, first_word_some, words_first}
use Rattle.rows.specs.Rows.{Row, Wrap, wrap, fits_row, unbroken, tabbed, pushed, by_clusters, word_end, long_word, one_word, by_words, split_text, split, splits, last_row, unwrapped, grapheme_boundary, word_boundary, drawn_grapheme_boundary, drawn_word_boundary, eight, wrapped, rows}
use Rattle.columns.specs.Heights.{parts_of, parts, RowsOfParts}

-- wrapping has pushed at most n rows
abbrev Most : ℕ → Wrap → Type 0
Most n t = length t.rows ≤ n

unbroken_most : (width n k : ℕ) (t : Wrap) → Most n t → Most (n + 1) (unbroken width t k)
unfolding unbroken
unbroken_most width n k t h = both (Most (n + 1)) (fits_row width t (t.position + k)) (omega arith) (omega arith)

tabbed_most : (width n : ℕ) (t : Wrap) → Most n t → Most (n + 1) (tabbed width t)
unfolding tabbed
tabbed_most width n t h = both (Most (n + 1)) (fits_row width t (t.position + (8 - t.position % 8))) (omega arith) (omega arith)

pushed_most : (n : ℕ) (t : Wrap) → Most n t → Most (n + 1) (pushed t)
unfolding pushed
pushed_most n t h = both (Most (n + 1)) (eqb t.start t.position) (omega arith) (omega arith)

module _ (P : Profile) where
  -- no more clusters than scalars
  add_few : (w : Bool) (c : Scalar) (gs : List (List Scalar)) → length (add_to_cluster P w c gs) ≤ 1 + length gs
  unfolding add_to_cluster
  add_few false c gs = omega arith
  add_few true c [] = omega arith
  add_few true c (g ∷ gs) = omega arith

  after_few : (s before : List Scalar) → length (clusters_after P before s) ≤ length s
  unfolding clusters_after
  after_few [] before = omega arith
  after_few (c ∷ s) before = omega (arith, add_few (joins_next P (c ∷ before) s) c (clusters_after P (c ∷ before) s), after_few s (c ∷ before))

  clusters_few : (s : List Scalar) → length (clusters P s) ≤ length s
  unfolding clusters
  clusters_few s = after_few s []

  module _ (width : ℕ) where
    by_clusters_most : (gs : List (List Scalar)) (n : ℕ) (t : Wrap) → Most n t → Most (n + length gs) (by_clusters P width t gs)
    unfolding by_clusters
    by_clusters_most [] n t h = omega arith
    by_clusters_most (g ∷ gs) n t h = omega (arith, by_clusters_most gs (n + 1) (unbroken width t (width_of P g)) (unbroken_most width n (width_of P g) t h))

    text_most : (s : List Scalar) (n : ℕ) (t : Wrap) → Most n t → Most (n + length s) (by_clusters P width t (clusters P s))
    text_most s n t h = omega (arith, by_clusters_most (clusters P s) n t h, clusters_few s)

    long_word_most : (v : Word) (n : ℕ) (t : Wrap) → Most n t → Most (n + length v.word + length v.sep) (long_word P width t v)
    unfolding long_word
    long_word_most v n t h =
        both (Most (n + length v.word + length v.sep)) (fits_row width t (word_end P width t v)) (omega arith)
        (text_most v.sep (n + length v.word) (by_clusters P width t (clusters P v.word)) (text_most v.word n t h))

    one_word_most : (v : Word) (n : ℕ) (t : Wrap) → Most n t → Most (n + 1 + length v.word + length v.sep) (one_word P width t v)
    unfolding one_word
    one_word_most v n t h =
        both (Most (n + 1 + length v.word + length v.sep)) (fits_row width t (word_end P width t v)) (omega arith) (long_word_most v (n + 1) (pushed t) (pushed_most n t h))

    by_words_most : (vs : List Word) (s : List Scalar) → words s ≡ vs → (n : ℕ) (t : Wrap) → Most n t → Most (n + 2 * length s) (by_words P width t vs)
    unfolding by_words words
    by_words_most [] s e n t h = omega arith
    by_words_most (v ∷ vs) [] e n t h = absurd (let z : ◌≡◌ {A = ℕ} 0 1 = cc in omega arith)
    by_words_most (v ∷ vs) (c ∷ s) e n t h =
        let f : first_word (c ∷ s) ∷ words (rest_words (c ∷ s)) ≡ v ∷ vs = sym (words_first (c ∷ s) c s refl) ∙ e in
        let i : first_word (c ∷ s) ≡ v = cc in
        let j : words (rest_words (c ∷ s)) ≡ vs = cc in
        let w : List Scalar = (first_word (c ∷ s)).word in
        let u : List Scalar = (first_word (c ∷ s)).sep in
        let a = simp length-append at (ap length (first_word_all (c ∷ s))) in
        let b = simp length-append at (ap length (first_word_some c s).1) in
        let x = ap (λ (v : Word). length v.word) i in
        let y = ap (λ (v : Word). length v.sep) i in
        let k = by_words_most vs (rest_words (c ∷ s)) j (n + 1 + length v.word + length v.sep) (one_word P width t v) (one_word_most v n t h) in
        omega arith

    split_text_most : (w : Bool) (s : List Scalar) (n : ℕ) (t : Wrap) → Most n t → Most (n + 2 * length s) (split_text P width w t s)
    unfolding split_text
    split_text_most true s n t h = by_words_most (words s) s refl n t h
    split_text_most false s n t h = omega (arith, text_most s n t h)

    module _ (count : List Scalar → ℕ) (w : Bool) where
      split_most : (c : Content) (n : ℕ) (t : Wrap) → Most n t → Most (n + 2 * parts_of c) (split P count width w t c)
      unfolding split parts_of
      split_most (text m s) n t h = split_text_most w s n t h
      split_most (control b) n t h = omega (arith, unbroken_most width n 4 t h)
      split_most (invalid b) n t h = omega (arith, unbroken_most width n 4 t h)
      split_most (unprintable s) n t h = omega (arith, unbroken_most width n (count s) t h)
      split_most (escape e) n t h = omega arith
      split_most tab n t h = omega (arith, tabbed_most width n t h)
      split_most crlf n t h = omega arith
      split_most lf n t h = omega arith

      splits_most : (ss : List Span) (n : ℕ) (t : Wrap) → Most n t → Most (n + 2 * parts ss) (splits P count width w t ss)
      unfolding splits parts
      splits_most [] n t h = omega arith
      splits_most (s ∷ ss) n t h = omega (arith, splits_most ss (n + 2 * parts_of s.content) (split P count width w t s.content) (split_most s.content n t h))

      last_most : (s p : ℕ) (rs : List Row) → length (last_row s p rs) ≤ length rs + 1
      unfolding last_row
      last_most s p [] = omega arith
      last_most s p (r ∷ rs) = both (λ (x : List Row). length x ≤ length (r ∷ rs) + 1) (ltb s p) (omega arith) (omega arith)

      wrapped_most : (ss : List Span) → length (wrapped P count width w ss) ≤ 2 * parts ss + 1
      unfolding wrapped
      wrapped_most ss =
          let t : Wrap = splits P count width w (wrap [] 0 0) ss in
          rw length-reverse (omega (arith, splits_most ss 0 (wrap [] 0 0) (omega arith), last_most t.start t.position t.rows))

  pub rows_of_parts : RowsOfParts P
  unfolding rows
  rows_of_parts width unwrapped ss = omega arith
  rows_of_parts width grapheme_boundary ss = wrapped_most width eight false ss
  rows_of_parts width word_boundary ss = wrapped_most width eight true ss
  rows_of_parts width drawn_grapheme_boundary ss = wrapped_most width drawn_columns false ss
  rows_of_parts width drawn_word_boundary ss = wrapped_most width drawn_columns true ss
