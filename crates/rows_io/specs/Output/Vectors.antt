-- What the program prints for an answer, as document 01 shows it, and for numbers.
use Rattle.std.specs.Prelude.{◌≡◌, refl, [], ◌∷◌}
use Rattle.rows_io.specs.Output.{decimal, row_line, row_lines, refusal, answer_text}

-- the rows (0, 4) and (4, 6), with zeros behind them
abbrev two_rows : answer_text 0 2 (0 ∷ 4 ∷ 4 ∷ 6 ∷ 0 ∷ 0 ∷ []) ≡ 0x30 ∷ 0x20 ∷ 0x30 ∷ 0x20 ∷ 0x34 ∷ 0x0A ∷ 0x31 ∷ 0x20 ∷ 0x34 ∷ 0x20 ∷ 0x36 ∷ 0x0A ∷ []
unfolding decimal row_line row_lines refusal answer_text
two_rows = refl

-- `refused 5`
abbrev five : answer_text 5 0 (0 ∷ 0 ∷ []) ≡ 0x72 ∷ 0x65 ∷ 0x66 ∷ 0x75 ∷ 0x73 ∷ 0x65 ∷ 0x64 ∷ 0x20 ∷ 0x35 ∷ 0x0A ∷ []
unfolding decimal row_line row_lines refusal answer_text
five = refl

abbrev none : decimal 0 ≡ 0x30 ∷ []
unfolding decimal
none = refl

abbrev ten : decimal 10 ≡ 0x31 ∷ 0x30 ∷ []
unfolding decimal
ten = refl

abbrev largest : decimal 18446744073709551615 ≡ 0x31 ∷ 0x38 ∷ 0x34 ∷ 0x34 ∷ 0x36 ∷ 0x37 ∷ 0x34 ∷ 0x34 ∷ 0x30 ∷ 0x37 ∷ 0x33 ∷ 0x37 ∷ 0x30 ∷ 0x39 ∷ 0x35 ∷ 0x35 ∷ 0x31 ∷ 0x36 ∷ 0x31 ∷ 0x35 ∷ []
unfolding decimal
largest = refl
