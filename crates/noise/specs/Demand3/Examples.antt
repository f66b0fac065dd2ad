-- Demand 3 on a line: noise between the two halves of a joined emoji separates them (document 02, U2).
use Rattle.std.specs.Prelude.{ℕ, List, [], ◌∷◌, ◌≡◌, refl}
use Rattle.text.specs.Width.{profile01}
use Rattle.text.specs.Overstrike.{convert}
use Rattle.spans.specs.Spans.{Record, a_record, spans, records}

read : List ℕ → List Record
unfolding convert spans records profile01
read line = records (spans profile01 (convert profile01 line))

-- U+1F468, U+200D and U+1F469 are one Text; with FF before U+1F469 they are Text, Invalid, Text
together : read (0xF0 ∷ 0x9F ∷ 0x91 ∷ 0xA8 ∷ 0xE2 ∷ 0x80 ∷ 0x8D ∷ 0xF0 ∷ 0x9F ∷ 0x91 ∷ 0xA9 ∷ []) ≡ a_record 1 0 11 0 ∷ []
unfolding read
together = refl

apart : read (0xF0 ∷ 0x9F ∷ 0x91 ∷ 0xA8 ∷ 0xE2 ∷ 0x80 ∷ 0x8D ∷ 0xFF ∷ 0xF0 ∷ 0x9F ∷ 0x91 ∷ 0xA9 ∷ []) ≡ a_record 1 0 7 0 ∷ a_record 4 7 1 0 ∷ a_record 1 8 4 0 ∷ []
unfolding read
apart = refl
