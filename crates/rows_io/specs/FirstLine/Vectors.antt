-- First lines and what they say: the example of document 01, leading zeros, what another form is.
use Rattle.std.specs.Prelude.{◌≡◌, refl, ℕ, List, [], ◌∷◌}
use Rattle.rows_io.specs.FirstLine.{empty, with_bytes, read_of, width_of}

-- the width, the mode and the number of bytes read
abbrev said : List ℕ → List ℕ
unfolding with_bytes read_of
said s = width_of (with_bytes empty s) ∷ (with_bytes empty s).mode ∷ read_of empty s ∷ []

-- `4 1`, newline, `ab`
abbrev example : said (0x34 ∷ 0x20 ∷ 0x31 ∷ 0x0A ∷ 0x61 ∷ 0x62 ∷ []) ≡ 4 ∷ 1 ∷ 4 ∷ []
unfolding said
example = refl

-- `004 02`, newline
abbrev zeros : said (0x30 ∷ 0x30 ∷ 0x34 ∷ 0x20 ∷ 0x30 ∷ 0x32 ∷ 0x0A ∷ []) ≡ 4 ∷ 2 ∷ 7 ∷ []
unfolding said
zeros = refl

-- `65535 0` and `65536 0`
abbrev greatest : said (0x36 ∷ 0x35 ∷ 0x35 ∷ 0x33 ∷ 0x35 ∷ 0x20 ∷ 0x30 ∷ 0x0A ∷ []) ≡ 65535 ∷ 0 ∷ 8 ∷ []
unfolding said
greatest = refl

abbrev greater : said (0x36 ∷ 0x35 ∷ 0x35 ∷ 0x33 ∷ 0x36 ∷ 0x20 ∷ 0x30 ∷ 0x0A ∷ []) ≡ 65536 ∷ 0 ∷ 8 ∷ []
unfolding said
greater = refl

-- another form: two spaces, a sign, CR before the newline, a space behind the mode, no mode, no newline, nothing
abbrev others : (width_of (with_bytes empty (0x34 ∷ 0x20 ∷ 0x20 ∷ 0x31 ∷ 0x0A ∷ [])) ∷ width_of (with_bytes empty (0x2B ∷ 0x34 ∷ 0x20 ∷ 0x31 ∷ 0x0A ∷ [])) ∷ width_of (with_bytes empty (0x34 ∷ 0x20 ∷ 0x31 ∷ 0x0D ∷ 0x0A ∷ [])) ∷ width_of (with_bytes empty (0x34 ∷ 0x20 ∷ 0x31 ∷ 0x20 ∷ 0x0A ∷ [])) ∷ width_of (with_bytes empty (0x34 ∷ 0x20 ∷ 0x0A ∷ [])) ∷ width_of (with_bytes empty (0x34 ∷ 0x20 ∷ 0x31 ∷ [])) ∷ width_of (with_bytes empty []) ∷ []) ≡ 65536 ∷ 65536 ∷ 65536 ∷ 65536 ∷ 65536 ∷ 65536 ∷ 65536 ∷ []
unfolding with_bytes
others = refl
