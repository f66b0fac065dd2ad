-- Rows: src/line.rs, Span::split and make_wrap. All numbers are columns.
use Rattle.std.specs.Prelude.{ℕ, ◌+◌, ◌-◌, ◌%◌, ◌≤◌, Bool, eqb, leb, ltb}
use Rattle.std.proofs.Math.Bool.{true, false, cond}
use mathlib.Core.List.{List, [], ◌∷◌, reverse}
use Rattle.text.specs.Utf8.{Scalar}
use Rattle.text.specs.Class.{Profile}
use Rattle.text.specs.Width.{width_of}
use Rattle.text.specs.Cluster.{clusters}
use Rattle.spans.specs.Spans.{Content, text, control, invalid, unprintable, escape, tab, crlf, lf, Span}
use Rattle.rows.specs.Marks.{drawn_columns}
use Rattle.rows.specs.Words.{Word, words}
pub mod Laws
pub mod InOrder
pub mod Noise

pub record Row : Type 0 where
  pub start : ℕ
  pub end : ℕ

abbrev pub row : ℕ → ℕ → Row
row a b = record { start = a; end = b }

-- the rows pushed, the last one first; where the present row starts; the position
pub record Wrap : Type 0 where
  pub rows : List Row
  pub start : ℕ
  pub position : ℕ

abbrev pub wrap : List Row → ℕ → ℕ → Wrap
wrap rs s p = record { rows = rs; start = s; position = p }

-- ---- Span::split

-- the columns up to `end` fit within the present row
abbrev pub fits_row : ℕ → Wrap → ℕ → Bool
fits_row width t end = leb (end - t.start) width

-- n columns that are not broken: they fit within the row, or wrap to the next
unfoldable pub unbroken : ℕ → Wrap → ℕ → Wrap
unbroken width t n =
    let end : ℕ = t.position + n in
    cond (fits_row width t end) (wrap t.rows t.start end) (wrap (row t.start t.position ∷ t.rows) t.position end)

-- up to the next multiple of 8 of the line's column: it fits within the row, or completes it
unfoldable pub tabbed : ℕ → Wrap → Wrap
tabbed width t =
    let end : ℕ = t.position + (8 - t.position % 8) in
    cond (fits_row width t end) (wrap t.rows t.start end) (wrap (row t.start end ∷ t.rows) end end)

-- what the present row holds pushed, if it holds anything
unfoldable pub pushed : Wrap → Wrap
pushed t = cond (eqb t.start t.position) t (wrap (row t.start t.position ∷ t.rows) t.position t.position)

module _ (P : Profile) (width : ℕ) where
  unfoldable pub by_clusters : Wrap → List (List Scalar) → Wrap
  unfolding unbroken width_of
  by_clusters t [] = t
  by_clusters t (g ∷ gs) = by_clusters (unbroken width t (width_of P g)) gs

  abbrev pub word_end : Wrap → Word → ℕ
  word_end t v = t.position + width_of P v.word + width_of P v.sep

  -- a word at the start of a row: it fits, or is broken between clusters
  unfoldable pub long_word : Wrap → Word → Wrap
  unfolding by_clusters clusters
  long_word t v =
      let broken : Wrap = by_clusters (by_clusters t (clusters P v.word)) (clusters P v.sep) in
      cond (fits_row width t (word_end t v)) (wrap t.rows t.start (word_end t v)) broken

  -- a word that fits within the row, or wraps to the next
  unfoldable pub one_word : Wrap → Word → Wrap
  unfolding long_word pushed
  one_word t v =
      let next : Wrap = long_word (pushed t) v in
      cond (fits_row width t (word_end t v)) (wrap t.rows t.start (word_end t v)) next

  unfoldable pub by_words : Wrap → List Word → Wrap
  unfolding one_word
  by_words t [] = t
  by_words t (v ∷ vs) = by_words (one_word t v) vs

  unfoldable pub split_text : Bool → Wrap → List Scalar → Wrap
  unfolding by_clusters by_words words clusters
  split_text true t s = by_words t (words s)
  split_text false t s = by_clusters t (clusters P s)

-- an Unprintable span counts `count`
module _ (P : Profile) (count : List Scalar → ℕ) (width : ℕ) where
  unfoldable pub split : Bool → Wrap → Content → Wrap
  unfolding split_text tabbed unbroken
  split w t (text m s) = split_text P width w t s
  split w t (control b) = unbroken width t 4
  split w t (invalid b) = unbroken width t 4
  split w t (unprintable s) = unbroken width t (count s)
  split w t (escape e) = t
  split w t tab = tabbed width t
  split w t crlf = t
  split w t lf = t

  unfoldable pub splits : Bool → Wrap → List Span → Wrap
  unfolding split
  splits w t [] = t
  splits w t (s ∷ ss) = splits w (split w t s.content) ss

-- ---- make_wrap

-- the last row, unless it is empty and not the only one
unfoldable pub last_row : ℕ → ℕ → List Row → List Row
last_row s p [] = row s p ∷ []
last_row s p (r ∷ rs) = cond (ltb s p) (row s p ∷ r ∷ rs) (r ∷ rs)

-- WrappingMode, and the two modes that count the columns drawn
pub data Mode : Type 0 where
  unwrapped grapheme_boundary word_boundary drawn_grapheme_boundary drawn_word_boundary : Mode

-- the source's count of an Unprintable span
abbrev pub eight : List Scalar → ℕ
eight s = 8

unfoldable pub wrapped : Profile → (List Scalar → ℕ) → ℕ → Bool → List Span → List Row
unfolding splits last_row
wrapped P count width w ss = let t : Wrap = splits P count width w (wrap [] 0 0) ss in reverse (last_row t.start t.position t.rows)

unfoldable pub rows : Profile → ℕ → Mode → List Span → List Row
unfolding wrapped drawn_columns
rows P width unwrapped ss = row 0 0xFFFF_FFFF_FFFF_FFFF ∷ []
rows P width grapheme_boundary ss = wrapped P eight width false ss
rows P width word_boundary ss = wrapped P eight width true ss
rows P width drawn_grapheme_boundary ss = wrapped P drawn_columns width false ss
rows P width drawn_word_boundary ss = wrapped P drawn_columns width true ss

-- one or more rows that run end to end from column a to column z
pub data EndToEnd : ℕ → ℕ → List Row → Type 0 where
  last : {a z : ℕ} → a ≤ z → EndToEnd a z (row a z ∷ [])
  next : {a b z : ℕ} {rs : List Row} → a ≤ b → EndToEnd b z rs → EndToEnd a z (row a b ∷ rs)
