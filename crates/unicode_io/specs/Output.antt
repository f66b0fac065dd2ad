-- What the program prints: the rows as the constants of the segmenter's source, in 64 parts at most; or `refused` and a number.
use Rattle.std.specs.Prelude.{ℕ, suc, ◌+◌, ◌-◌, ◌*◌, ◌/◌, ◌%◌, Bool, true, false, cond, ◌||◌, List, [], ◌∷◌, ◌++◌, length, ◌==◌}
use Rattle.buffer.specs.Numbers.{smaller_of}
use Rattle.unicode_io.specs.Text.{ascii}
use Rattle.unicode_io.specs.Digits.{decimal, hexadecimal}
use Rattle.unicode_io.specs.declared.rows.Row.{Row}
pub mod Laws

-- a number of a constant, on a line of its own
unfoldable pub number_line : ℕ → List ℕ
unfolding ascii hexadecimal
number_line n = ascii "    0x" ++ hexadecimal n ++ ascii ",\n"

-- the rows of a part; the last part may have fewer
abbrev pub part_size : ℕ → ℕ
part_size total = total / 64 + 1

-- a blank line stands between two constants
unfoldable pub gap : ℕ → List ℕ
unfolding ascii
gap part = cond (part == 0) [] (ascii "\n")

unfoldable pub head : ℕ → ℕ → List ℕ
unfolding ascii decimal gap
head part rows = gap part ++ ascii "pub(crate) const PART_" ++ decimal part ++ ascii ": [u32; " ++ decimal (rows * 3) ++ ascii "] = [\n"

unfoldable pub foot : List ℕ
unfolding ascii
foot = ascii "];\n"

-- first scalar, last scalar and kind
unfoldable pub numbers : Row → List ℕ
unfolding number_line
numbers r = number_line r.low ++ number_line (r.end - 1) ++ number_line r.kind

-- row i of so many: the first of a part has its head before it, the last its foot after
unfoldable pub head_of : ℕ → ℕ → List ℕ
unfolding head
head_of total i = cond (i % part_size total == 0) (head (i / part_size total) (smaller_of (part_size total) (total - i))) []

unfoldable pub foot_of : ℕ → ℕ → List ℕ
unfolding foot
foot_of total i = cond (i % part_size total + 1 == part_size total || total - i == 1) foot []

unfoldable pub row_text : ℕ → ℕ → Row → List ℕ
unfolding head_of numbers foot_of
row_text total i r = head_of total i ++ numbers r ++ foot_of total i

unfoldable pub row_texts : ℕ → ℕ → List Row → List ℕ
unfolding row_text
row_texts total i [] = []
row_texts total i (r ∷ rs) = row_text total i r ++ row_texts total (suc i) rs

unfoldable pub table_text : List Row → List ℕ
unfolding row_texts
table_text rs = row_texts (length rs) 0 rs

unfoldable pub refusal : ℕ → List ℕ
unfolding ascii decimal
refusal n = ascii "refused " ++ decimal n ++ ascii "\n"
