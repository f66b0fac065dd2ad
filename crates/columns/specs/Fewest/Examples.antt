-- Units and rows of a line, computed.
use Rattle.std.specs.Prelude.{◌≡◌, refl, ℕ, List, [], ◌∷◌}
use Rattle.text.specs.Width.{profile01}
use Rattle.text.specs.Overstrike.{convert}
use Rattle.spans.specs.Spans.{Span, spans}
use Rattle.rows.specs.Rows.{row, grapheme_boundary, word_boundary, eight, rows}
use Rattle.columns.specs.Fewest.{units}

abbrev read : List ℕ → List Span
read line = spans profile01 (convert profile01 line)

-- `a`, U+6F22, the mark of FF, and a lone U+0301
abbrev line : List ℕ
line = 0x61 ∷ 0xE6 ∷ 0xBC ∷ 0xA2 ∷ 0xFF ∷ 0xCC ∷ 0x81 ∷ []

line_units : units profile01 eight (read line) ≡ 1 ∷ 2 ∷ 4 ∷ 8 ∷ []
unfolding profile01 convert spans units
line_units = refl

line_rows : rows profile01 8 grapheme_boundary (read line) ≡ row 0 7 ∷ row 7 15 ∷ []
unfolding profile01 convert spans rows
line_rows = refl

-- mode 2 has three rows where two would do: it breaks between words
abbrev words : List ℕ
words = 0x61 ∷ 0x20 ∷ 0x62 ∷ 0x62 ∷ 0x20 ∷ 0x63 ∷ 0x63 ∷ 0x20 ∷ []

by_clusters_law : rows profile01 4 grapheme_boundary (read words) ≡ row 0 4 ∷ row 4 8 ∷ []
unfolding profile01 convert spans rows
by_clusters_law = refl

by_words_law : rows profile01 4 word_boundary (read words) ≡ row 0 2 ∷ row 2 5 ∷ row 5 8 ∷ []
unfolding profile01 convert spans rows
by_words_law = refl

-- below the width of a unit mode 1 has a row wider than the screen
narrow : rows profile01 1 grapheme_boundary (read (0xE6 ∷ 0xBC ∷ 0xA2 ∷ [])) ≡ row 0 0 ∷ row 0 2 ∷ []
unfolding profile01 convert spans rows
narrow = refl
