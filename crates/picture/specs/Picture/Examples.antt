-- The row picture of a line, computed, and lines and profiles outside its conditions of which it is false.
use Rattle.std.specs.Prelude.{◌≡◌, refl, ℕ, cond, ◌||◌, List, [], ◌∷◌, map, length, eqb}
use Rattle.std.proofs.Math.Option.{none}
use Rattle.text.specs.Utf8.{Scalar, to, within}
use Rattle.text.specs.Class.{Profile, regional_indicator, extend, other}
use Rattle.text.specs.Cluster.{join_all}
use Rattle.text.specs.Width.{profile01}
use Rattle.text.specs.Overstrike.{convert}
use Rattle.spans.specs.Spans.{text, Span, span, spans}
use Rattle.rows.specs.Rows.{Mode, unwrapped, grapheme_boundary, word_boundary, rows}
use Rattle.drawing.specs.Draw.{render_wrapped}
use Rattle.picture.specs.Picture.{Cell, shown, rows_shown}

-- what the rows show, and what is shown Unwrapped
abbrev by_rows : Profile → ℕ → Mode → List Span → List Cell
by_rows P width mode ss = rows_shown P 0 width mode none ss 0 (length (rows P width mode ss))

abbrev whole : Profile → List Span → List Cell
whole P ss = shown P (render_wrapped P 0 1 0 unwrapped none ss)

abbrev read : List ℕ → List Span
read l = spans profile01 (convert profile01 l)

-- ---- ESC [ 1 m, a, FF, tab, U+6F22 with a mark, `-`, ESC ( 0, q, space, b: 13 cells

abbrev line : List Span
line = read (0x1B ∷ 0x5B ∷ 0x31 ∷ 0x6D ∷ 0x61 ∷ 0xFF ∷ 0x09 ∷ 0xE6 ∷ 0xBC ∷ 0xA2 ∷ 0xCC ∷ 0x81 ∷ 0x2D ∷ 0x1B ∷ 0x28 ∷ 0x30 ∷ 0x71 ∷ 0x20 ∷ 0x62 ∷ [])

by_clusters_law : by_rows profile01 2 grapheme_boundary line ≡ whole profile01 line
unfolding profile01 convert spans rows_shown
by_clusters_law = refl

by_words_law : by_rows profile01 3 word_boundary line ≡ whole profile01 line
unfolding profile01 convert spans rows_shown
by_words_law = refl

some_cells : length (whole profile01 line) ≡ 13
unfolding profile01 convert spans render_wrapped shown
some_cells = refl

-- ---- OneMark: two lone marks draw 16 columns, and mode 1 counts 8

two_marks : (length (by_rows profile01 80 grapheme_boundary (read (0xCC ∷ 0x81 ∷ 0xCC ∷ 0x81 ∷ []))) ≡ 8) × (length (whole profile01 (read (0xCC ∷ 0x81 ∷ 0xCC ∷ 0x81 ∷ []))) ≡ 16)
unfolding profile01 convert spans rows_shown
two_marks = (refl, refl)

-- ---- Byte: at a number above 255 the mark's first digit would be U+3037, of width 2, and no row would reach the mark's `>`

no_byte : (length (by_rows profile01 80 grapheme_boundary (read (0x30000 ∷ []))) ≡ 3) × (length (whole profile01 (read (0x30000 ∷ []))) ≡ 4)
unfolding profile01 convert spans rows_shown
no_byte = (refl, refl)

-- ---- profiles

abbrev one : ℕ → Scalar
one v = record { code = v; bytes = [] }

abbrev texts : List Scalar → List Span
texts s = span 0 1 (text none s) ∷ []

-- the scalars that cells show
scalars : List Cell → ℕ
scalars cs = length (join_all (map (λ (c : Cell). c.cluster) cs))

-- WordBreakClasses: a hyphen of class RI, an RI of width 0 and two of width 1. The text's clusters are two pairs, the second word's own a pair and one
abbrev indicators : Profile
indicators = record { class = λ v. cond (eqb v 0x2D || within (to 0x100 0x102) v) regional_indicator other; width = λ v. cond (eqb v 0x100) 0 1 }

abbrev pairs : List Span
pairs = texts (one 0x2D ∷ one 0x100 ∷ one 0x101 ∷ one 0x102 ∷ [])

pairs_cut : (scalars (by_rows indicators 1 word_boundary pairs) ≡ 3) × (scalars (whole indicators pairs) ≡ 4)
unfolding rows_shown join_all scalars
pairs_cut = (refl, refl)

-- Unshared: a hyphen, and behind it an Extend of width 1
abbrev wide_extend : Profile
wide_extend = record { class = λ v. cond (eqb v 0x100) extend other; width = λ v. 1 }

abbrev shared : List Span
shared = texts (one 0x2D ∷ one 0x100 ∷ [])

shared_cut : (scalars (by_rows wide_extend 1 word_boundary shared) ≡ 1) × (scalars (whole wide_extend shared) ≡ 2)
unfolding rows_shown join_all scalars
shared_cut = (refl, refl)
