-- The bound is reached by the empty line, and but for one row by hyphens; style orders take no rows.
use Rattle.std.specs.Prelude.{◌≡◌, refl, ℕ, List, [], ◌∷◌, length}
use Rattle.text.specs.Width.{profile01}
use Rattle.text.specs.Overstrike.{convert}
use Rattle.spans.specs.Spans.{spans}
use Rattle.rows.specs.Rows.{Mode, grapheme_boundary, word_boundary, rows}

-- at width 0
abbrev height : Mode → List ℕ → ℕ
height mode line = length (rows profile01 0 mode (spans profile01 (convert profile01 line)))

no_bytes : height word_boundary [] ≡ 1
unfolding profile01 convert spans rows
no_bytes = refl

hyphens : height word_boundary (0x2D ∷ 0x2D ∷ 0x2D ∷ []) ≡ 6
unfolding profile01 convert spans rows
hyphens = refl

letters : height grapheme_boundary (0x61 ∷ 0x61 ∷ 0x61 ∷ []) ≡ 4
unfolding profile01 convert spans rows
letters = refl

-- `a` over `a`: ESC [ 1 m, a, ESC [ 22 m
bold_letter : height grapheme_boundary (0x61 ∷ 0x08 ∷ 0x61 ∷ []) ≡ 2
unfolding profile01 convert spans rows
bold_letter = refl

-- bold a, underlined b and c, erased up to the last byte of the order before b: a, and ESC [ 22 ; 4 as a mark and text
broken_order : height grapheme_boundary (0x61 ∷ 0x08 ∷ 0x61 ∷ 0x5F ∷ 0x08 ∷ 0x62 ∷ 0x63 ∷ 0x08 ∷ 0x08 ∷ 0x08 ∷ []) ≡ 8
unfolding profile01 convert spans rows
broken_order = refl
