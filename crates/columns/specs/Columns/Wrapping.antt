-- Rows run end to end, and begin and end at columns of which F holds, if F holds wherever wrapping may end a row.
use Rattle.std.proofs.Math.Path.{◌≡◌, refl, sym, ap, subst}
use Rattle.std.proofs.Common.{◌∙◌, add-zero}
use Rattle.std.specs.Prelude.{ℕ, ◌+◌, ◌-◌, ◌%◌, ◌≤◌, Bool, eqb, ltb}
use Rattle.std.proofs.Math.Nat.{add_assoc}
use native.Mathlib.Omega.{arith}
use Rattle.std.proofs.Math.Bool.{true, false}
use mathlib.Core.List.{List, [], ◌∷◌, ◌++◌, map, reverse, reverse_aux}
use Rattle.std.proofs.Math.Option.{Option}
use borrow.Author.Tests.{ltb-false}
use Rattle.text.specs.Tests.{cases, both}
use Rattle.text.specs.Utf8.{Scalar}
use Rattle.text.specs.Class.{Profile}
use Rattle.text.specs.Width.{width_of}
use Rattle.text.specs.Width.Laws.{width_append, width_nil}
use Rattle.text.specs.Cluster.{clusters, join_all}
use Rattle.text.specs.Cluster.Laws.{clusters_all, join_cons, join_nil}
use Rattle.spans.specs.Spans.{Content, text, control, invalid, unprintable, escape, tab, crlf, lf, Span}
use Rattle.rows.specs.Words.{Word, words}
use Rattle.rows.specs.Words.Laws.{first_word, rest_words, first_word_all, words_first}
use Rattle.rows.specs.Rows.{Row, row, Wrap, wrap, fits_row, unbroken, tabbed, pushed, by_clusters, word_end, long_word, one_word, by_words, split_text, split, splits, last_row, wrapped, EndToEnd}
use Rattle.columns.specs.Columns.{span_columns, last_column_from, last_column}

-- ---- widths side by side

unfoldable pub total : List ℕ → ℕ
total [] = 0
total (w ∷ ws) = w + total ws

-- F holds of every column at which one of these widths ends, the first beginning at column p
unfoldable pub EachEnd : (ℕ → Type 0) → ℕ → List ℕ → Type 0
EachEnd F p [] = Unit {0}
EachEnd F p (w ∷ ws) = F (p + w) × EachEnd F (p + w) ws

module _ (P : Profile) where
  abbrev pub widths : List (List Scalar) → List ℕ
  widths gs = map (width_of P) gs

  widths_join : (gs : List (List Scalar)) → total (widths gs) ≡ width_of P (join_all gs)
  unfolding total
  widths_join [] = rw (join_nil, width_nil P)
  widths_join (g ∷ gs) = rw (join_cons g gs, width_append P g (join_all gs), widths_join gs)

  pub widths_total : (s : List Scalar) → total (widths (clusters P s)) ≡ width_of P s
  widths_total s = widths_join (clusters P s) ∙ ap (width_of P) (clusters_all P s)

  -- ---- words

  -- the column behind a word and its separator
  abbrev pub behind : ℕ → Word → ℕ
  behind p v = p + width_of P v.word + width_of P v.sep

  unfoldable pub words_width : List Word → ℕ
  words_width [] = 0
  words_width (v ∷ vs) = width_of P v.word + width_of P v.sep + words_width vs

  words_sum : (vs : List Word) (s : List Scalar) → words s ≡ vs → words_width vs ≡ width_of P s
  unfolding words_width words
  words_sum [] [] e = sym (width_nil P)
  words_sum (v ∷ vs) [] e = absurd (let z : ◌≡◌ {A = ℕ} 0 1 = cc in omega arith)
  words_sum [] (c ∷ s) e = absurd (let f = sym (words_first (c ∷ s) c s refl) ∙ e in let z : ◌≡◌ {A = ℕ} 0 1 = cc in omega arith)
  words_sum (v ∷ vs) (c ∷ s) e =
      let f : first_word (c ∷ s) ∷ words (rest_words (c ∷ s)) ≡ v ∷ vs = sym (words_first (c ∷ s) c s refl) ∙ e in
      let i : first_word (c ∷ s) ≡ v = cc in
      let w : List Scalar = (first_word (c ∷ s)).word in
      let t : List Scalar = (first_word (c ∷ s)).sep in
      let r : List Scalar = rest_words (c ∷ s) in
      rw (← i) (omega (arith, words_sum vs r (cc), ap (width_of P) (first_word_all (c ∷ s)), width_append P (w ++ t) r, width_append P w t))

  -- words and their separators are as wide as their text
  pub words_width_law : (s : List Scalar) → words_width (words s) ≡ width_of P s
  words_width_law s = words_sum (words s) s refl

module _ (F : ℕ → Type 0) where
  -- rows, the last one first, that run end to end from column 0 to column z; F holds where they begin and end
  data RowsTo : ℕ → List Row → Type 0 where
    none : RowsTo 0 []
    more : {a z : ℕ} {rs : List Row} → a ≤ z → F a → F z → RowsTo a rs → RowsTo z (row a z ∷ rs)

  -- the same from column a on, the first one first
  pub data Run : ℕ → ℕ → List Row → Type 0 where
    last : {a z : ℕ} → a ≤ z → F a → F z → Run a z (row a z ∷ [])
    next : {a b z : ℕ} {rs : List Row} → a ≤ b → F a → F b → Run b z rs → Run a z (row a b ∷ rs)

  pub run_ends : {a z : ℕ} {rs : List Row} → Run a z rs → EndToEnd a z rs
  run_ends (last h f g) = EndToEnd.last h
  run_ends (next h f g r) = EndToEnd.next h (run_ends r)

  -- wrapping as far as column p
  record Wrapped (p : ℕ) (t : Wrap) : Type 0 where
    rows : RowsTo t.start t.rows
    ordered : t.start ≤ t.position
    start : F t.start
    here : F t.position
    position : t.position ≡ p

  still : {p : ℕ} (t : Wrap) → Wrapped p t → Wrapped (p + 0) t
  still {p} t w = rw (add-zero p) w

  unbroken_wrapped : (width n p : ℕ) (t : Wrap) → Wrapped p t → F (p + n) → Wrapped (p + n) (unbroken width t n)
  unfolding unbroken
  unbroken_wrapped width n p t w f =
      let o = w.ordered in
      let e = w.position in
      let g : F (t.position + n) = rw e f in
      both (Wrapped (p + n)) (fits_row width t (t.position + n))
      (record { rows = w.rows; ordered = omega arith; start = w.start; here = g; position = omega arith })
      (record { rows = more o w.start w.here w.rows; ordered = omega arith; start = w.here; here = g; position = omega arith })

  tabbed_wrapped : (width p : ℕ) (t : Wrap) → Wrapped p t → F (p + (8 - p % 8)) → Wrapped (p + (8 - p % 8)) (tabbed width t)
  unfolding tabbed
  tabbed_wrapped width p t w f =
      let o = w.ordered in
      let e = w.position in
      let g : F (t.position + (8 - t.position % 8)) = rw e f in
      let k : t.start ≤ t.position + (8 - t.position % 8) = omega arith in
      let q : t.position + (8 - t.position % 8) ≡ p + (8 - p % 8) = rw e refl in
      both (Wrapped (p + (8 - p % 8))) (fits_row width t (t.position + (8 - t.position % 8)))
      (record { rows = w.rows; ordered = k; start = w.start; here = g; position = q })
      (record { rows = more k w.start g w.rows; ordered = omega arith; start = g; here = g; position = q })

  pushed_wrapped : (p : ℕ) (t : Wrap) → Wrapped p t → Wrapped p (pushed t)
  unfolding pushed
  pushed_wrapped p t w =
      both (Wrapped p) (eqb t.start t.position) w
      (record { rows = more w.ordered w.start w.here w.rows; ordered = omega arith; start = w.here; here = w.here; position = w.position })

  module _ (P : Profile) where
    -- F holds where words, separators and their clusters end, the first word beginning at column p
    unfoldable pub WordEnds : ℕ → List Word → Type 0
    WordEnds p [] = Unit {0}
    WordEnds p (v ∷ vs) = EachEnd F p (widths P (clusters P v.word)) × EachEnd F (p + width_of P v.word) (widths P (clusters P v.sep)) × F (behind P p v) × WordEnds (behind P p v) vs

    -- F holds where wrapping may end a row in a text at column p
    unfoldable pub TextEnds : Bool → ℕ → List Scalar → Type 0
    unfolding WordEnds EachEnd
    TextEnds true p s = WordEnds p (words s)
    TextEnds false p s = EachEnd F p (widths P (clusters P s))

    module _ (width : ℕ) where
      by_clusters_wrapped : (gs : List (List Scalar)) (p : ℕ) (t : Wrap) → Wrapped p t → EachEnd F p (widths P gs) → Wrapped (p + total (widths P gs)) (by_clusters P width t gs)
      unfolding total EachEnd by_clusters
      by_clusters_wrapped [] p t w e = still t w
      by_clusters_wrapped (g ∷ gs) p t w e =
          rw (← add_assoc p (width_of P g) (total (widths P gs)))
          (by_clusters_wrapped gs (p + width_of P g) (unbroken width t (width_of P g)) (unbroken_wrapped width (width_of P g) p t w e.0) e.1)

      clusters_wrapped : (s : List Scalar) (p : ℕ) (t : Wrap) → Wrapped p t → EachEnd F p (widths P (clusters P s)) → Wrapped (p + width_of P s) (by_clusters P width t (clusters P s))
      clusters_wrapped s p t w e = rw (widths_total P s) at (by_clusters_wrapped (clusters P s) p t w e)

      module _ (v : Word) (p : ℕ) (word : EachEnd F p (widths P (clusters P v.word))) (sep : EachEnd F (p + width_of P v.word) (widths P (clusters P v.sep)))
          (end : F (behind P p v)) where
        fitting : (t : Wrap) → Wrapped p t → Wrapped (behind P p v) (wrap t.rows t.start (word_end P width t v))
        fitting t w =
            let o = w.ordered in
            let e = w.position in
            record { rows = w.rows; ordered = omega arith; start = w.start; here = rw e end; position = omega arith }

        long_word_wrapped : (t : Wrap) → Wrapped p t → Wrapped (behind P p v) (long_word P width t v)
        unfolding long_word
        long_word_wrapped t w =
            both (Wrapped (behind P p v)) (fits_row width t (word_end P width t v)) (fitting t w)
            (clusters_wrapped v.sep (p + width_of P v.word) (by_clusters P width t (clusters P v.word)) (clusters_wrapped v.word p t w word) sep)

        one_word_wrapped : (t : Wrap) → Wrapped p t → Wrapped (behind P p v) (one_word P width t v)
        unfolding one_word
        one_word_wrapped t w =
            both (Wrapped (behind P p v)) (fits_row width t (word_end P width t v)) (fitting t w) (long_word_wrapped (pushed t) (pushed_wrapped p t w))

      by_words_wrapped : (vs : List Word) (p : ℕ) (t : Wrap) → Wrapped p t → WordEnds p vs → Wrapped (p + words_width P vs) (by_words P width t vs)
      unfolding words_width WordEnds by_words
      by_words_wrapped [] p t w e = still t w
      by_words_wrapped (v ∷ vs) p t w e =
          let q : p + (width_of P v.word + width_of P v.sep + words_width P vs) ≡ behind P p v + words_width P vs = omega arith in
          rw q (by_words_wrapped vs (behind P p v) (one_word P width t v) (one_word_wrapped v p e.0 e.1 e.2 t w) e.3)

      text_wrapped : (b : Bool) (s : List Scalar) (p : ℕ) (t : Wrap) → Wrapped p t → TextEnds b p s → Wrapped (p + width_of P s) (split_text P width b t s)
      unfolding TextEnds split_text
      text_wrapped true s p t w e = rw (words_width_law P s) at (by_words_wrapped (words s) p t w e)
      text_wrapped false s p t w e = clusters_wrapped s p t w e

    -- ---- spans

    module _ (count : List Scalar → ℕ) (b : Bool) where
      -- F holds wherever wrapping may end a row in spans from column p on
      unfoldable pub Stops : ℕ → List Span → Type 0
      Stops p [] = Unit {0}
      Stops p (s ∷ ss) =
          ((m : Option ℕ) (x : List Scalar) → s.content ≡ text m x → TextEnds b p x) × F (p + span_columns P count p s.content) × Stops (p + span_columns P count p s.content) ss

      module _ (width : ℕ) where
        split_wrapped : (c : Content) (p : ℕ) (t : Wrap) → Wrapped p t → ((m : Option ℕ) (x : List Scalar) → c ≡ text m x → TextEnds b p x) → F (p + span_columns P count p c)
            → Wrapped (p + span_columns P count p c) (split P count width b t c)
        unfolding span_columns split
        split_wrapped (text m s) p t w e f = text_wrapped width b s p t w (e m s refl)
        split_wrapped (control x) p t w e f = unbroken_wrapped width 4 p t w f
        split_wrapped (invalid x) p t w e f = unbroken_wrapped width 4 p t w f
        split_wrapped (unprintable s) p t w e f = unbroken_wrapped width (count s) p t w f
        split_wrapped (escape x) p t w e f = still t w
        split_wrapped tab p t w e f = tabbed_wrapped width p t w f
        split_wrapped crlf p t w e f = still t w
        split_wrapped lf p t w e f = still t w

        splits_wrapped : (ss : List Span) (p : ℕ) (t : Wrap) → Wrapped p t → Stops p ss → Wrapped (last_column_from P count p ss) (splits P count width b t ss)
        unfolding Stops last_column_from splits
        splits_wrapped [] p t w e = w
        splits_wrapped (s ∷ ss) p t w e =
            splits_wrapped ss (p + span_columns P count p s.content) (split P count width b t s.content) (split_wrapped s.content p t w e.0 e.1) e.2

  -- ---- make_wrap

  turned : {a z : ℕ} {rs qs : List Row} → RowsTo a rs → Run a z qs → Run 0 z (reverse_aux rs qs)
  turned none r = r
  turned (more h f g u) r = turned u (next h f g r)

  last_run : (s p : ℕ) {rs : List Row} → RowsTo s rs → s ≤ p → F s → F p → Run 0 p (reverse (last_row s p rs))
  unfolding last_row
  last_run s p none h f g = last h f g
  last_run s p (more {a = a} {rs = rs} k i j u) h f g =
      cases (ltb s p)
      (λ e. rw e (turned (more k i j u) (last h f g)))
      (λ e. let z : s ≡ p = omega (arith, ltb-false s p e) in rw e (subst (λ (n : ℕ). Run 0 n (reverse (row a s ∷ rs))) z (turned u (last k i j))))

  pub wrapped_run : (P : Profile) (count : List Scalar → ℕ) (width : ℕ) (b : Bool) (ss : List Span) → F 0 → Stops P count b 0 ss → Run 0 (last_column P count ss) (wrapped P count width b ss)
  unfolding wrapped
  wrapped_run P count width b ss z e =
      let t : Wrap = splits P count width b (wrap [] 0 0) ss in
      let w : Wrapped (last_column P count ss) t = splits_wrapped P count b width ss 0 (wrap [] 0 0) (record { rows = none; ordered = omega arith; start = z; here = z; position = refl }) e in
      subst (λ (n : ℕ). Run 0 n (wrapped P count width b ss)) w.position (last_run t.start t.position w.rows w.ordered w.start w.here)
