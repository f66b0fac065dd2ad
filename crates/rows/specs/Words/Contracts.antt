-- What the contracts of words.rt say beyond the definitions.
use Rattle.std.specs.Prelude.{ℕ, ◌+◌, Bool, cond, ◌&&◌, not, List, ◌++◌, eqb, leb}
use Rattle.text.specs.declared.TextPart.{TextPart}
use Rattle.text.specs.Utf8.{Scalar}
use Rattle.text.specs.Class.{Profile}
use Rattle.text.specs.TextParts.{place, column, text_at, Measured}
use Rattle.rows.specs.Words.{Word}
use Rattle.rows.specs.Words.Laws.{first_word}

-- a byte that belongs to a separator, or else to a word before a `-`, of those of one column
abbrev pub byte_belongs : Bool → ℕ → Bool
byte_belongs sep b = cond sep (eqb b 0x20) ((leb 0x21 b && leb b 0x7E) && not (eqb b 0x2D))

-- a part with one scalar more
abbrev pub longer : TextPart → (len width : ℕ) → TextPart
longer p len width = record { end = place (p.end.0 + len); width = column (p.width.0 + width) }

-- a word with its separator
abbrev pub both_of : Word → List Scalar
both_of v = v.word ++ v.sep

-- the first word from a place on
abbrev pub WordAt : Profile → List ℕ → ℕ → TextPart → Type 0
WordAt P s at r = Measured P s at (both_of (first_word (text_at s at))) r
