-- At the line's last column, or wider, a line takes one row.
use Rattle.std.specs.Prelude.{◌≡◌, Bool, leb}
use Rattle.std.proofs.Math.Path.{refl, ap}
use Rattle.std.proofs.Common.{◌∙◌, le-leb}
use Prim.Native.Nat.{ℕ, ◌+◌, ◌-◌, ◌%◌, ◌≤◌}
use native.Mathlib.Omega.{arith}
use Rattle.std.proofs.Math.Bool.{true, false}
use mathlib.Core.List.{List, [], ◌∷◌}
use Rattle.text.specs.Utf8.{Scalar}
use Rattle.text.specs.Class.{Profile}
use Rattle.text.specs.Width.{width_of}
use Rattle.text.specs.Cluster.{clusters}
use Rattle.spans.specs.Spans.{Content, text, control, invalid, unprintable, escape, tab, crlf, lf, Span}
use Rattle.rows.specs.Words.{Word, words}
use Rattle.rows.specs.Rows.{row, Wrap, wrap, unbroken, tabbed, by_clusters, one_word, by_words, split_text, split, splits, last_row, wrapped}
use Rattle.columns.specs.Columns.{span_columns, last_column_from, last_column}
use Rattle.columns.specs.Columns.Wrapping.{total, widths, widths_total, words_width, words_width_law}

module _ (width : ℕ) where
  -- the first row, up to column p
  abbrev upto : ℕ → Wrap
  upto p = wrap [] 0 p

  fits : (n : ℕ) → n ≤ width → leb (n - 0) width ≡ true
  fits n h = le-leb (n - 0) width (omega arith)

  unbroken_one : (n p : ℕ) → p + n ≤ width → unbroken width (upto p) n ≡ upto (p + n)
  unfolding unbroken
  unbroken_one n p h = rw (fits (p + n) h)

  tabbed_one : (p : ℕ) → p + (8 - p % 8) ≤ width → tabbed width (upto p) ≡ upto (p + (8 - p % 8))
  unfolding tabbed
  tabbed_one p h = rw (fits (p + (8 - p % 8)) h)

  module _ (P : Profile) where
    by_clusters_one : (gs : List (List Scalar)) (p : ℕ) → p + total (widths P gs) ≤ width → by_clusters P width (upto p) gs ≡ upto (p + total (widths P gs))
    unfolding by_clusters total
    by_clusters_one [] p h = ap upto (omega arith)
    by_clusters_one (g ∷ gs) p h =
        ap (λ (t : Wrap). by_clusters P width t gs) (unbroken_one (width_of P g) p (omega arith)) ∙ by_clusters_one gs (p + width_of P g) (omega arith) ∙ ap upto (omega arith)

    by_words_one : (vs : List Word) (p : ℕ) → p + words_width P vs ≤ width → by_words P width (upto p) vs ≡ upto (p + words_width P vs)
    unfolding by_words one_word words_width
    by_words_one [] p h = ap upto (omega arith)
    by_words_one (v ∷ vs) p h =
        rw (fits (p + width_of P v.word + width_of P v.sep) (omega arith)) (by_words_one vs (p + width_of P v.word + width_of P v.sep) (omega arith) ∙ ap upto (omega arith))

    split_text_one : (w : Bool) (s : List Scalar) (p : ℕ) → p + width_of P s ≤ width → split_text P width w (upto p) s ≡ upto (p + width_of P s)
    unfolding split_text
    split_text_one true s p h = let e = words_width_law P s in by_words_one (words s) p (omega arith) ∙ ap upto (omega arith)
    split_text_one false s p h = let e = widths_total P s in by_clusters_one (clusters P s) p (omega arith) ∙ ap upto (omega arith)

    module _ (count : List Scalar → ℕ) where
      split_one : (w : Bool) (c : Content) (p : ℕ) → p + span_columns P count p c ≤ width → split P count width w (upto p) c ≡ upto (p + span_columns P count p c)
      unfolding split span_columns
      split_one w (text m s) p h = split_text_one w s p h
      split_one w (control b) p h = unbroken_one 4 p h
      split_one w (invalid b) p h = unbroken_one 4 p h
      split_one w (unprintable s) p h = unbroken_one (count s) p h
      split_one w (escape e) p h = ap upto (omega arith)
      split_one w tab p h = tabbed_one p h
      split_one w crlf p h = ap upto (omega arith)
      split_one w lf p h = ap upto (omega arith)

      onward : (ss : List Span) (p : ℕ) → p ≤ last_column_from P count p ss
      unfolding last_column_from
      onward [] p = omega arith
      onward (s ∷ ss) p = let k = onward ss (p + span_columns P count p s.content) in omega arith

      splits_one : (w : Bool) (ss : List Span) (p : ℕ) → last_column_from P count p ss ≤ width → splits P count width w (upto p) ss ≡ upto (last_column_from P count p ss)
      unfolding splits last_column_from
      splits_one w [] p h = refl
      splits_one w (s ∷ ss) p h =
          let q : ℕ = p + span_columns P count p s.content in
          ap (λ (t : Wrap). splits P count width w t ss) (split_one w s.content p (omega (arith, onward ss q))) ∙ splits_one w ss q h

      pub one_row_law : (w : Bool) (ss : List Span) → last_column P count ss ≤ width → wrapped P count width w ss ≡ row 0 (last_column P count ss) ∷ []
      unfolding wrapped last_row
      one_row_law w ss h = rw (splits_one w ss 0 h) refl
