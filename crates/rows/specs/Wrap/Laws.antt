-- The rows that a line's spans push are the definition's; the count is their number, and the list has their pairs.
use Rattle.std.specs.Prelude.{◌≡◌, ◌≢◌, Bool, cond, set, eqb, ltb}
use Rattle.std.proofs.Math.Path.{refl, sym, ap}
use Rattle.std.proofs.Common.{◌∙◌, add-one, length-append, drop-cons}
use Prim.Native.Nat.{ℕ, zero, suc, ◌+◌, ◌*◌, ◌/◌, ◌≤◌, ◌<◌}
use native.Mathlib.Omega.{arith}
use mathlib.Core.List.{List, [], ◌∷◌, ◌++◌, reverse, reverse-reverse, reverse-cons, append_assoc}
use Rattle.std.proofs.Math.Option.{none, some}
use Rattle.std.proofs.Math.ListN.{length, drop, get_or, length-drop}
use Rattle.std.proofs.lemmas.List.{length-reverse}
use Rattle.std.proofs.Math.Seq.{set-append_seam}
use borrow.Author.Tests.{lt-ltb, le-ltb, eq-eqb, ne_eqb, eqb-true, eqb-false, ltb-true, ltb-false}
use Rattle.text.specs.Tests.{cases}
use Rattle.text.specs.Each.{all_nil, all_cons}
use Rattle.text.specs.Utf8.{Scalar}
use Rattle.text.specs.Class.{Profile}
use Rattle.spans.specs.Sequence.{sgr, erase_to_end, ignored, hyperlink, line_drawing}
use Rattle.spans.specs.Spans.RecordSpans.{HasContents}
use Rattle.spans.specs.Spans.{Content, text, control, invalid, unprintable, escape, tab, crlf, lf, Span, Record, a_record, kind_of, match_of, record_of, records}
use Rattle.spans.specs.Spans.ContentLaw.{text_in, content_in, content_of}
use Rattle.rows.specs.Rows.{Row, Wrap, wrap, unbroken, split, splits, split_text, last_row, wrapped, rows}
use Rattle.rows.specs.Calls.{mode_of, numbers_of}
use Rattle.rows.specs.Wrap.{next_count, counted_row, pair_at, RowList, row_list, with_row, with_rows, wrap_rows, on, record_in, word_mode, count_of, span_of, spans_of, rows_of, last_row_list, beginning}
use Rattle.rows.specs.declared.wrap.RowCounts.{RowCounts}

-- ---- what a record does is what its span does

module _ (P : Profile) (count : List Scalar → ℕ) (width : ℕ) (w : Bool) (line : List ℕ) (t : Wrap) (p n : ℕ) where
  content_split : (c : Content) → content_of line (a_record (kind_of c) p n (match_of c)) ≡ c → record_in P count width w line (a_record (kind_of c) p n (match_of c)) t ≡ split P count width w t c
  unfolding record_in split content_of content_in kind_of match_of
  content_split (text none s) e = let q : text_in n (drop p line) ≡ s = cc in ap (split_text P width w t) q
  content_split (text (some k) s) e = let q : text_in n (drop p line) ≡ s = cc in ap (split_text P width w t) q
  content_split (control b) e = refl
  content_split (invalid b) e = refl
  content_split (unprintable s) e = let q : text_in n (drop p line) ≡ s = cc in ap (λ (x : List Scalar). unbroken width t (count x)) q
  content_split (escape (sgr os)) e = refl
  content_split (escape (hyperlink a m)) e = refl
  content_split (escape (line_drawing b)) e = refl
  content_split (escape ignored) e = refl
  content_split (escape erase_to_end) e = refl
  content_split tab e = refl
  content_split crlf e = refl
  content_split lf e = refl

module _ (P : Profile) (width mode : ℕ) (line : List ℕ) where
  records_split : (mode ≢ 0) → {ss : List Span} → HasContents line ss → (t : Wrap) → spans_of P width mode line (records ss) t ≡ splits P (count_of mode) width (word_mode mode) t ss
  unfolding spans_of span_of splits records record_of
  records_split z all_nil t = refl
  records_split z (all_cons {a = s} {s = ss} h a) t =
      ap (spans_of P width mode line (records ss)) (rw (ne_eqb mode 0 z) (content_split P (count_of mode) width (word_mode mode) line t s.place s.len s.content h))
      ∙ records_split z a (split P (count_of mode) width (word_mode mode) t s.content)

  records_unwrapped : mode ≡ 0 → (rs : List Record) (t : Wrap) → spans_of P width mode line rs t ≡ t
  unfolding spans_of span_of
  records_unwrapped z [] t = refl
  records_unwrapped z (r ∷ rs) t = rw (eq-eqb mode 0 z) (records_unwrapped z rs t)

-- ---- counts

count_some : (k : RowList) (r : Row) → ((with_row k r).tally.count ≢ 0)
unfolding with_row counted_row next_count
count_some k r e =
    cases (ltb k.tally.count 0xFFFF_FFFF_FFFF_FFFF)
    (λ h. let z = rw h at e in omega arith)
    (λ h. let z = rw h at e in let b = ltb-false k.tally.count 0xFFFF_FFFF_FFFF_FFFF h in omega arith)

-- a count that has not reached the largest usize is the number of the rows
pub written_count : (k : RowList) → k.tally.count ≡ 0 → (rs : List Row) → (with_rows k rs).tally.count < 0xFFFF_FFFF_FFFF_FFFF → (with_rows k rs).tally.count ≡ length rs
unfolding with_rows with_row counted_row next_count
written_count k z [] h = z
written_count k z (r ∷ rs) h =
    cases (ltb (with_rows k rs).tally.count 0xFFFF_FFFF_FFFF_FFFF)
    (λ e. rw e (ap (λ (n : ℕ). n + 1) (written_count k z rs (ltb-true _ _ e)) ∙ add-one (length rs)))
    (λ e. let b = ltb-false (with_rows k rs).tally.count 0xFFFF_FFFF_FFFF_FFFF e in let c = rw e at h in absurd (omega arith))

-- ---- the rows of a line

last_written : (k : RowList) → k.tally.count ≡ 0 → (mode : ℕ) → (mode ≢ 0) → (s p : ℕ) (rs : List Row)
    → last_row_list mode (record { rows = with_rows k rs; start = s; position = p }) ≡ with_rows k (last_row s p rs)
unfolding last_row_list last_row with_rows
last_written k z mode h s p [] = cases (ltb s p) (λ e. rw (ne_eqb mode 0 h, e)) (λ e. rw (ne_eqb mode 0 h, e, eq-eqb k.tally.count 0 z))
last_written k z mode h s p (r ∷ rs) =
    cases (ltb s p) (λ e. rw (ne_eqb mode 0 h, e)) (λ e. rw (ne_eqb mode 0 h, e, ne_eqb (with_row (with_rows k rs) r).tally.count 0 (count_some (with_rows k rs) r)))

abbrev none_yet : List ℕ → ℕ → ℕ → RowList
none_yet l first last = row_list l (beginning first last).tally

module _ (P : Profile) (width : ℕ) (line : List ℕ) where
  module _ (l : List ℕ) (first last mode : ℕ) (rs : List Record) where
    unwrapped_pushed : mode ≡ 0 → last_row_list mode (on (spans_of P width mode line rs) (wrap_rows l (beginning first last))) ≡ with_rows (none_yet l first last) (rows_of P width mode line rs)
    unfolding on last_row_list with_rows rows_of
    unwrapped_pushed z = rw (z, records_unwrapped P width 0 line refl rs (wrap [] 0 0)) refl

    -- what records do is to push their rows
    pub rows_pushed : last_row_list mode (on (spans_of P width mode line rs) (wrap_rows l (beginning first last))) ≡ with_rows (none_yet l first last) (rows_of P width mode line rs)
    unfolding on rows_of
    rows_pushed =
        let t : Wrap = spans_of P width mode line rs (wrap [] 0 0) in
        cases (eqb mode 0)
        (λ e. unwrapped_pushed (eqb-true mode 0 e))
        (λ e. rw e (last_written (none_yet l first last) refl mode (eqb-false mode 0 e) t.start t.position t.rows))

  -- the rows of the records of a line's spans are its rows
  module _ (ss : List Span) (a : HasContents line ss) where
    wrapped_rows : (mode : ℕ) → (mode ≢ 0) → rows_of P width mode line (records ss) ≡ reverse (wrapped P (count_of mode) width (word_mode mode) ss)
    unfolding rows_of wrapped
    wrapped_rows mode z =
        let t : Wrap = splits P (count_of mode) width (word_mode mode) (wrap [] 0 0) ss in
        rw (ne_eqb mode 0 z, records_split P width mode line z a (wrap [] 0 0)) (sym (reverse-reverse (last_row t.start t.position t.rows)))

    pub rows_of_spans : (mode : ℕ) → mode ≤ 4 → rows_of P width mode line (records ss) ≡ reverse (rows P width (mode_of mode) ss)
    unfolding rows mode_of rows_of word_mode count_of
    rows_of_spans zero h = refl
    rows_of_spans (suc zero) h = wrapped_rows 1 (λ e. omega arith)
    rows_of_spans (suc (suc zero)) h = wrapped_rows 2 (λ e. omega arith)
    rows_of_spans (suc (suc (suc zero))) h = wrapped_rows 3 (λ e. omega arith)
    rows_of_spans (suc (suc (suc (suc zero)))) h = wrapped_rows 4 (λ e. omega arith)
    rows_of_spans (suc (suc (suc (suc (suc n))))) h = absurd (omega arith)

-- the rows that the spans of a line push are its rows
pub rows_written : (P : Profile) (width : ℕ) (line l : List ℕ) (first last : ℕ) (ss : List Span) (mode : ℕ) → mode ≤ 4 → HasContents line ss
    → last_row_list mode (on (spans_of P width mode line (records ss)) (wrap_rows l (beginning first last))) ≡ with_rows (none_yet l first last) (reverse (rows P width (mode_of mode) ss))
rows_written P width line l first last ss mode h a = rows_pushed P width line l first last mode (records ss) ∙ ap (with_rows (none_yet l first last)) (rows_of_spans P width line ss a mode h)

-- ---- the list of pairs

numbers_of_append : (a b : List Row) → numbers_of (a ++ b) ≡ numbers_of a ++ numbers_of b
unfolding numbers_of
numbers_of_append [] b = refl
numbers_of_append (r ∷ a) b = ap (λ (l : List ℕ). r.start ∷ r.end ∷ l) (numbers_of_append a b)

pub numbers_of_length : (a : List Row) → length (numbers_of a) ≡ 2 * length a
unfolding numbers_of
numbers_of_length [] = refl
numbers_of_length (r ∷ a) = omega (arith, numbers_of_length a)

-- two numbers behind a, in the place of two others
two_set : (a z : List ℕ) (n u v x y : ℕ) → length a ≡ n → set (set (a ++ u ∷ v ∷ z) n x) (n + 1) y ≡ a ++ x ∷ y ∷ z
two_set a z n u v x y e =
    let p : set (a ++ u ∷ v ∷ z) n x ≡ a ++ x ∷ v ∷ z = rw (← e) (set-append_seam a u (v ∷ z) x) in
    let q : a ++ x ∷ v ∷ z ≡ (a ++ x ∷ []) ++ v ∷ z = sym (append_assoc a (x ∷ []) (v ∷ z)) in
    let m : n + 1 ≡ length (a ++ x ∷ []) = rw (length-append, e) in
    ap (λ (l : List ℕ). set l (n + 1) y) (p ∙ q) ∙ rw m (set-append_seam (a ++ x ∷ []) v z y) ∙ append_assoc a (x ∷ []) (y ∷ z)

two_more : (l : List ℕ) (i : ℕ) → 2 + i ≤ length l → drop i l ≡ get_or l i 0 ∷ get_or l (suc i) 0 ∷ drop (suc (suc i)) l
two_more l i h = drop-cons l i 0 (omega arith) ∙ ap (λ (x : List ℕ). get_or l i 0 ∷ x) (drop-cons l (suc i) 0 (omega arith))

module _ (l : List ℕ) (t : RowCounts) (z : t.count ≡ 0) where
  abbrev nothing_yet : RowList
  nothing_yet = row_list l t

  fewer : (r : Row) (rs : List Row) → (with_rows nothing_yet (r ∷ rs)).tally.count < 0xFFFF_FFFF_FFFF_FFFF → (with_rows nothing_yet rs).tally.count < 0xFFFF_FFFF_FFFF_FFFF
  unfolding with_rows with_row counted_row next_count
  fewer r rs h = cases (ltb (with_rows nothing_yet rs).tally.count 0xFFFF_FFFF_FFFF_FFFF) (λ e. ltb-true _ _ e) (λ e. rw e at h)

  pairs : (r : Row) (rs : List Row) (u v : ℕ) (y : List ℕ) → (with_rows nothing_yet rs).tally.count ≡ length rs → (with_rows nothing_yet rs).numbers ≡ numbers_of (reverse rs) ++ u ∷ v ∷ y
      → length (with_rows nothing_yet rs).numbers ≡ length l → length rs < length l / 2 → length (numbers_of (reverse rs)) ≡ 2 * length rs
      → (with_rows nothing_yet (r ∷ rs)).numbers ≡ (numbers_of (reverse rs) ++ r.start ∷ r.end ∷ []) ++ y
  unfolding with_rows with_row pair_at
  pairs r rs u v y k f g lt a =
      rw (k, g, lt-ltb (length rs) (length l / 2) lt, f) (two_set (numbers_of (reverse rs)) y (2 * length rs) u v r.start r.end a ∙ sym (append_assoc (numbers_of (reverse rs)) (r.start ∷ r.end ∷ []) y))

  -- the pairs of the rows, in their order, and what stood behind them
  pub written_numbers : (rs : List Row) → 2 * length rs ≤ length l → (with_rows nothing_yet rs).tally.count < 0xFFFF_FFFF_FFFF_FFFF
      → (with_rows nothing_yet rs).numbers ≡ numbers_of (reverse rs) ++ drop (2 * length rs) l
  unfolding with_rows with_row pair_at numbers_of
  written_numbers [] h c = refl
  written_numbers (r ∷ rs) h c =
      let d = fewer r rs c in
      let i : ℕ = 2 * length rs in
      let k : (with_rows nothing_yet rs).tally.count ≡ length rs = written_count nothing_yet z rs d in
      let m : (with_rows nothing_yet rs).numbers ≡ numbers_of (reverse rs) ++ drop i l = written_numbers rs (omega arith) d in
      let a : length (numbers_of (reverse rs)) ≡ i = numbers_of_length (reverse rs) ∙ ap (λ (n : ℕ). 2 * n) (length-reverse rs) in
      let e : drop i l ≡ get_or l i 0 ∷ get_or l (suc i) 0 ∷ drop (2 * suc (length rs)) l =
      two_more l i (omega arith) ∙ ap (λ (n : ℕ). get_or l i 0 ∷ get_or l (suc i) 0 ∷ drop n l) (let q : suc (suc i) ≡ 2 * suc (length rs) = omega arith in q) in
      let f : (with_rows nothing_yet rs).numbers ≡ numbers_of (reverse rs) ++ get_or l i 0 ∷ get_or l (suc i) 0 ∷ drop (2 * suc (length rs)) l = m ∙ ap (λ (x : List ℕ). numbers_of (reverse rs) ++ x) e in
      let g : length (with_rows nothing_yet rs).numbers ≡ length l = ap length m ∙ (rw (length-append, a, length-drop i l) (omega arith)) in
      let lt : length rs < length l / 2 = omega arith in
      pairs r rs (get_or l i 0) (get_or l (suc i) 0) (drop (2 * suc (length rs)) l) k f g lt a ∙ ap (λ (x : List ℕ). x ++ drop (2 * suc (length rs)) l) (sym (ap numbers_of (reverse-cons r rs) ∙ numbers_of_append (reverse rs) (r ∷ [])))

-- ---- rows in their order

-- more rows, the first one first
unfoldable pub with_all_rows : RowList → List Row → RowList
unfolding with_row
with_all_rows k [] = k
with_all_rows k (r ∷ rs) = with_all_rows (with_row k r) rs

written_last : (k : RowList) (rs : List Row) (r : Row) → with_rows k (rs ++ r ∷ []) ≡ with_rows (with_row k r) rs
unfolding with_rows
written_last k [] r = refl
written_last k (x ∷ rs) r = ap (λ (y : RowList). with_row y x) (written_last k rs r)

-- rows pushed, the last one first, are those pushed in their order
pub written_all : (k : RowList) (rs : List Row) → with_rows k (reverse rs) ≡ with_all_rows k rs
unfolding with_rows with_all_rows
written_all k [] = refl
written_all k (r ∷ rs) = ap (with_rows k) (reverse-cons r rs) ∙ written_last k (reverse rs) r ∙ written_all (with_row k r) rs

keep_counts : (k : RowList) (r : Row) → k.tally.count ≤ (with_row k r).tally.count
unfolding with_row counted_row next_count
keep_counts k r = cases (ltb k.tally.count 0xFFFF_FFFF_FFFF_FFFF) (λ e. rw e (omega arith)) (λ e. rw e (omega arith))

keep_counted : (k : RowList) (r : Row) → k.tally.count < 0xFFFF_FFFF_FFFF_FFFF → (with_row k r).tally.count ≡ k.tally.count + 1
unfolding with_row counted_row next_count
keep_counted k r h = rw (lt-ltb k.tally.count 0xFFFF_FFFF_FFFF_FFFF h)

keep_all_counts : (rs : List Row) (k : RowList) → k.tally.count ≤ (with_all_rows k rs).tally.count
unfolding with_all_rows
keep_all_counts [] k = omega arith
keep_all_counts (r ∷ rs) k = omega (arith, keep_counts k r, keep_all_counts rs (with_row k r))

-- A bound that the tally keeps: the value of the row at an index, or a fallback where there is none. `g` is what a definition says of the rows.
module _ (value index fallback : RowList → ℕ) (of : Row → ℕ) (g : ℕ → ℕ → List Row → ℕ)
    (same_index : (k : RowList) (r : Row) → index (with_row k r) ≡ index k)
    (next_value : (k : RowList) (r : Row) → value (with_row k r) ≡ cond (eqb k.tally.count (index k)) (of r) (value k))
    (g_none : (k : RowList) (i : ℕ) → g (fallback k) i [] ≡ fallback k)
    (g_here : (k : RowList) (r : Row) (rs : List Row) → g (fallback k) 0 (r ∷ rs) ≡ of r)
    (g_on : (k : RowList) (i : ℕ) (r : Row) (rs : List Row) → g (fallback k) (suc i) (r ∷ rs) ≡ g (fallback (with_row k r)) i rs) where
  value_stays : (rs : List Row) (k : RowList) → index k < k.tally.count → value (with_all_rows k rs) ≡ value k
  unfolding with_all_rows
  value_stays [] k h = refl
  value_stays (r ∷ rs) k h =
      value_stays rs (with_row k r) (omega (arith, same_index k r, keep_counts k r))
      ∙ next_value k r ∙ rw (ne_eqb k.tally.count (index k) (λ e. omega arith))

  pub value_written : (rs : List Row) (k : RowList) (i : ℕ) → i + k.tally.count ≡ index k → (with_all_rows k rs).tally.count < 0xFFFF_FFFF_FFFF_FFFF
      → cond (ltb (index k) (with_all_rows k rs).tally.count) (value (with_all_rows k rs)) (fallback (with_all_rows k rs)) ≡ g (fallback k) i rs
  unfolding with_all_rows
  value_written [] k i e h = rw (le-ltb (index k) k.tally.count (omega arith)) (sym (g_none k i))
  value_written (r ∷ rs) k zero e h =
      let c : (with_row k r).tally.count ≡ k.tally.count + 1 = keep_counted k r (omega (arith, keep_counts k r, keep_all_counts rs (with_row k r))) in
      let v : value (with_all_rows (with_row k r) rs) ≡ of r = value_stays rs (with_row k r) (omega (arith, same_index k r)) ∙ next_value k r ∙ rw (eq-eqb k.tally.count (index k) (omega arith)) in
      rw (lt-ltb (index k) (with_all_rows (with_row k r) rs).tally.count (omega (arith, keep_all_counts rs (with_row k r))), v) (sym (g_here k r rs))
  value_written (r ∷ rs) k (suc i) e h =
      let c : (with_row k r).tally.count ≡ k.tally.count + 1 = keep_counted k r (omega (arith, keep_counts k r, keep_all_counts rs (with_row k r))) in
      rw (← same_index k r) (value_written rs (with_row k r) i (omega (arith, same_index k r)) h) ∙ sym (g_on k i r rs)

-- ---- the bounds that the tally keeps

pub last_stays : (rs : List Row) (k : RowList) → (with_all_rows k rs).tally.last ≡ k.tally.last
unfolding with_all_rows with_row counted_row
last_stays [] k = refl
last_stays (r ∷ rs) k = last_stays rs (with_row k r)

pub first_stays : (rs : List Row) (k : RowList) → (with_all_rows k rs).tally.first ≡ k.tally.first
unfolding with_all_rows with_row counted_row
first_stays [] k = refl
first_stays (r ∷ rs) k = first_stays rs (with_row k r)

module _ (g : ℕ → ℕ → List Row → ℕ) (none : (e i : ℕ) → g e i [] ≡ e) (k : RowList) (rs : List Row) (few : (with_all_rows k rs).tally.count < 0xFFFF_FFFF_FFFF_FFFF) (new : k.tally.count ≡ 0) where
  abbrev y : RowCounts
  y = (with_all_rows k rs).tally

  -- the end of a row, or of the last one
  pub end_written : ((e : ℕ) (r : Row) (rs : List Row) → g e 0 (r ∷ rs) ≡ r.end) → ((e i : ℕ) (r : Row) (rs : List Row) → g e (suc i) (r ∷ rs) ≡ g r.end i rs)
      → cond (ltb k.tally.last y.count) y.end.0 y.ended.0 ≡ g k.tally.ended.0 k.tally.last rs
  unfolding with_row counted_row
  end_written here on =
      value_written (λ x. x.tally.end.0) (λ x. x.tally.last) (λ x. x.tally.ended.0) (λ r. r.end) g (λ x r. refl)
      (λ x r. cases (eqb x.tally.count x.tally.last) (λ e. rw e refl) (λ e. rw e refl)) (λ x i. none _ i) (λ x r rs. here _ r rs) (λ x i r rs. on _ i r rs) rs k k.tally.last (omega arith) few

  -- the start of a row, or else a column
  pub start_written : ((e : ℕ) (r : Row) (rs : List Row) → g e 0 (r ∷ rs) ≡ r.start) → ((e i : ℕ) (r : Row) (rs : List Row) → g e (suc i) (r ∷ rs) ≡ g e i rs)
      → (e : ℕ) → cond (ltb k.tally.first y.count) y.start.0 e ≡ g e k.tally.first rs
  unfolding with_row counted_row
  start_written here on e =
      value_written (λ x. x.tally.start.0) (λ x. x.tally.first) (λ x. e) (λ r. r.start) g (λ x r. refl)
      (λ x r. cases (eqb x.tally.count x.tally.first) (λ f. rw f refl) (λ f. rw f refl)) (λ x i. none e i) (λ x r rs. here e r rs) (λ x i r rs. on e i r rs) rs k k.tally.first (omega arith) few
