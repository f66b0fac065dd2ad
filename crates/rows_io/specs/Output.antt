-- What the rows program prints: a line of index, start and end for each row; for a refusal `refused`, a space and its number.
use Rattle.std.specs.Prelude.{ℕ, suc, ◌*◌, cond, List, [], ◌∷◌, ◌++◌, take, eqb}
use Rattle.io.specs.Digits.{last_digits}
use Rattle.text.specs.Width.{profile01}
use Rattle.rows.specs.Calls.{Wrapped, rows_call}
use Rattle.rows_io.specs.FirstLine.{width_of}
use Rattle.rows_io.specs.Input.{first_of, line_of}
use Rattle.rows_io.specs.declared.first_line.FirstLine.{FirstLine}
pub mod Laws
pub mod Vectors

-- a number's decimal digits: the last twenty, which is all that a usize has, without the zeros in front
unfoldable pub without_zeros : List ℕ → List ℕ
without_zeros [] = []
without_zeros (d ∷ []) = d ∷ []
without_zeros (d ∷ e ∷ ds) = let further : List ℕ = without_zeros (e ∷ ds) in cond (eqb d 0x30) further (d ∷ e ∷ ds)

unfoldable pub decimal : ℕ → List ℕ
unfolding without_zeros
decimal n = without_zeros (last_digits 10 20 n)

-- index, start and end of a row
unfoldable pub row_line : ℕ → ℕ → ℕ → List ℕ
row_line index start end = decimal index ++ (0x20 ∷ []) ++ decimal start ++ (0x20 ∷ []) ++ decimal end ++ (0x0A ∷ [])

-- the rows of a list of numbers, start and end for each
unfoldable pub row_lines : ℕ → List ℕ → List ℕ
row_lines i [] = []
row_lines i (start ∷ []) = []
row_lines i (start ∷ end ∷ ns) = row_line i start end ++ row_lines (suc i) ns

-- `refused`, a space and the number
unfoldable pub refusal : ℕ → List ℕ
refusal n = (0x72 ∷ 0x65 ∷ 0x66 ∷ 0x75 ∷ 0x73 ∷ 0x65 ∷ 0x64 ∷ 0x20 ∷ []) ++ decimal n ++ (0x0A ∷ [])

unfoldable pub answer_text : ℕ → ℕ → List ℕ → List ℕ
answer_text number count numbers =
    let rows : List ℕ = row_lines 0 (take (2 * count) numbers) in
    let refused : List ℕ = refusal number in
    cond (eqb number 0) rows refused

-- the program "lends 32,768 bytes, 2,048 spans and 4,096 pairs"
unfoldable pub printed : FirstLine → List ℕ → List ℕ
printed f line =
    let w : Wrapped = rows_call profile01 32768 2048 8192 (width_of f) f.mode line in
    answer_text w.number w.count w.rows

-- what the program prints for its input
abbrev pub rows_program : List ℕ → List ℕ
rows_program s = printed (first_of s) (line_of s)
