-- What the contracts of wrap.rt say: the state of wrapping and the lent row list, of the rows pushed.
use Rattle.std.specs.Prelude.{◌≡◌, ℕ, ◌+◌, ◌-◌, ◌*◌, ◌/◌, ◌≤◌, ◌<◌, ◌^◌, Bool, ◌||◌, length, set, drop, eqb, ltb}
use Rattle.std.proofs.Math.Bool.{cond}
use mathlib.Core.List.{List, [], ◌∷◌}
use Rattle.text.specs.declared.TextPart.{TextPart}
use Rattle.text.specs.Utf8.{Scalar}
use Rattle.text.specs.Class.{Profile}
use Rattle.text.specs.TextParts.{column}
use Rattle.text.specs.Cluster.{clusters}
use Rattle.spans.specs.Spans.{Record}
use Rattle.spans.specs.Spans.ContentLaw.{text_in}
use Rattle.rows.specs.Marks.{drawn_columns}
use Rattle.rows.specs.Words.{Word, words}
use Rattle.rows.specs.Rows.{Row, row, Wrap, wrap, unbroken, by_clusters, long_word, one_word, by_words, split_text, tabbed, last_row}
use Rattle.rows.specs.declared.wrap.RowCounts.{RowCounts}
use Rattle.rows.specs.declared.wrap.WrapState.{WrapState}
use Rattle.rows.specs.Words.Contracts.{WordAt}
pub mod Laws

-- ---- the rows pushed

-- one more, up to the largest usize
unfoldable pub next_count : ℕ → ℕ
next_count n = cond (ltb n 0xFFFF_FFFF_FFFF_FFFF) (n + 1) n

unfoldable pub counted_row : RowCounts → Row → RowCounts
unfolding next_count
counted_row t r =
    record {
      count = next_count t.count;
      first = t.first;
      last = t.last;
      start = cond (eqb t.count t.first) (column r.start) t.start;
      end = cond (eqb t.count t.last) (column r.end) t.end;
      ended = column r.end;
    }

-- row number n in a list of numbers, where it has a pair for it
unfoldable pub pair_at : List ℕ → ℕ → Row → List ℕ
pair_at l n r = cond (ltb n (length l / 2)) (set (set l (2 * n) r.start) (2 * n + 1) r.end) l

-- the lent row list and the counts of rows
pub record RowList : Type 0 where
  pub numbers : List ℕ
  pub tally : RowCounts

abbrev pub row_list : List ℕ → RowCounts → RowList
row_list l t = record { numbers = l; tally = t }

-- one more row
unfoldable pub with_row : RowList → Row → RowList
unfolding pair_at counted_row
with_row k r = row_list (pair_at k.numbers k.tally.count r) (counted_row k.tally r)

-- more rows, the last one first
unfoldable pub with_rows : RowList → List Row → RowList
unfolding with_row
with_rows k [] = k
with_rows k (r ∷ rs) = with_row (with_rows k rs) r

-- ---- a step of wrapping

-- the rows pushed, where the present row starts, and the position
pub record WrapRows : Type 0 where
  pub rows : RowList
  pub start : ℕ
  pub position : ℕ

abbrev pub wrap_rows : List ℕ → WrapState → WrapRows
wrap_rows l t = record { rows = row_list l t.tally; start = t.start.0; position = t.position.0 }

-- wrapping goes on: the rows that it pushes stand behind those pushed before
unfoldable pub on : (Wrap → Wrap) → WrapRows → WrapRows
unfolding with_rows
on f h =
    let t : Wrap = f (wrap [] h.start h.position) in
    record { rows = with_rows h.rows t.rows; start = t.start; position = t.position }

-- the steps, with the state last
unfoldable pub unbroken_of : ℕ → ℕ → Wrap → Wrap
unfolding unbroken
unbroken_of width n t = unbroken width t n

module _ (P : Profile) (width : ℕ) where
  unfoldable pub clusters_of : List Scalar → Wrap → Wrap
  unfolding by_clusters clusters
  clusters_of s t = by_clusters P width t (clusters P s)

  unfoldable pub long_word_of : Word → Wrap → Wrap
  unfolding long_word
  long_word_of v t = long_word P width t v

  unfoldable pub one_word_of : Word → Wrap → Wrap
  unfolding one_word
  one_word_of v t = one_word P width t v

  unfoldable pub words_of : List Scalar → Wrap → Wrap
  unfolding by_words words
  words_of s t = by_words P width t (words s)

  unfoldable pub text_of : Bool → List Scalar → Wrap → Wrap
  unfolding split_text
  text_of w s t = split_text P width w t s

-- n more columns fit a usize
pub record Room (t : WrapState) (n : ℕ) : Type 0 where
  pub low : t.start.0 ≤ t.position.0
  pub room : t.position.0 + n < 2 ^ 64

-- a word of a text, with room for it
pub record WordRoom (P : Profile) (s : List ℕ) (at : ℕ) (v : TextPart) (t : WrapState) : Type 0 where
  pub there : WordAt P s at v
  pub room : Room t (2 * (v.end.0 - at))

-- n columns further within the present row
abbrev pub advanced : WrapState → ℕ → WrapState
advanced t n = record { start = t.start; position = column (t.position.0 + n); tally = t.tally }

-- a step of at most n columns and m rows
pub record Stepped (l : List ℕ) (t : WrapState) (f : Wrap → Wrap) (n m : ℕ) (l' : List ℕ) (t' : WrapState) : Type 0 where
  pub same : wrap_rows l' t' ≡ on f (wrap_rows l t)
  pub low : t'.start.0 ≤ t'.position.0
  pub near : t'.position.0 ≤ t.position.0 + n
  pub more : t'.tally.count ≤ t.tally.count + m

-- ---- spans

-- room for a span of a line
abbrev pub SpanRoom : List ℕ → WrapState → Type 0
SpanRoom line t = Room t (10 * length line + 8)

-- what a record of the line does, an Unprintable span counting `count`
unfoldable pub record_in : Profile → (List Scalar → ℕ) → ℕ → Bool → List ℕ → Record → Wrap → Wrap
unfolding split_text unbroken tabbed text_in
record_in P count width w line r t =
    let s : List Scalar = text_in r.len (drop r.place.0 line) in
    cond (eqb r.kind 1 || eqb r.kind 2) (split_text P width w t s)
    (cond (eqb r.kind 3 || eqb r.kind 4) (unbroken width t 4)
    (cond (eqb r.kind 5) (unbroken width t (count s))
    (cond (eqb r.kind 10) (tabbed width t) t)))

-- the modes by number: which break texts between words, and what an Unprintable span counts
unfoldable pub word_mode : ℕ → Bool
word_mode mode = eqb mode 2 || eqb mode 4

unfoldable pub count_of : ℕ → List Scalar → ℕ
unfolding drawn_columns
count_of mode s = cond (ltb mode 3) 8 (drawn_columns s)

module _ (P : Profile) (width : ℕ) where
  unfoldable pub span_of : ℕ → List ℕ → Record → Wrap → Wrap
  unfolding record_in word_mode count_of
  span_of mode line r t = cond (eqb mode 0) t (record_in P (count_of mode) width (word_mode mode) line r t)

  unfoldable pub spans_of : ℕ → List ℕ → List Record → Wrap → Wrap
  unfolding span_of
  spans_of mode line [] t = t
  spans_of mode line (r ∷ rs) t = spans_of mode line rs (span_of mode line r t)

  -- the rows that they push, the last one first
  unfoldable pub rows_of : ℕ → List ℕ → List Record → List Row
  unfolding spans_of last_row
  rows_of mode line rs =
      let t : Wrap = spans_of mode line rs (wrap [] 0 0) in
      cond (eqb mode 0) (row 0 0xFFFF_FFFF_FFFF_FFFF ∷ []) (last_row t.start t.position t.rows)

-- the last row, unless it is empty and not the only one
unfoldable pub last_row_list : ℕ → WrapRows → RowList
unfolding with_row
last_row_list mode h =
    cond (eqb mode 0) (with_row h.rows (row 0 0xFFFF_FFFF_FFFF_FFFF))
    (cond (ltb h.start h.position) (with_row h.rows (row h.start h.position))
    (cond (eqb h.rows.tally.count 0) (with_row h.rows (row h.start h.position)) h.rows))

pub record LastRow (l : List ℕ) (t : WrapState) (mode : ℕ) (l' : List ℕ) (r : RowCounts) : Type 0 where
  pub same : row_list l' r ≡ last_row_list mode (wrap_rows l t)
  pub more : r.count ≤ t.tally.count + 1

-- ---- all spans

-- nothing pushed yet
abbrev pub beginning : ℕ → ℕ → WrapState
beginning first last =
    record {
      start = column 0;
      position = column 0;
      tally = record { count = 0; first = first; last = last; start = column 0; end = column 0; ended = column 0 };
    }

-- the spans of a converted line, few enough that all columns and rows fit a usize
pub record SpansRoom (spans : List Record) (line : List ℕ) (t : WrapState) : Type 0 where
  pub few : length spans ≤ 32768
  pub short : length line ≤ 32768
  pub low : t.start.0 ≤ t.position.0
  pub near : t.position.0 ≤ 4294967296
  pub more : t.tally.count ≤ 4294967296

pub record MadeWrap (P : Profile) (width mode : ℕ) (line : List ℕ) (rs : List Record) (l : List ℕ) (t : WrapState) (l' : List ℕ) (r : RowCounts) : Type 0 where
  pub same : row_list l' r ≡ last_row_list mode (on (spans_of P width mode line rs) (wrap_rows l t))
  pub more : r.count < 0xFFFF_FFFF_FFFF_FFFF
