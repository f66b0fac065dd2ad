-- What the code does: a file's bytes one by one, and the cells that its entries fill.
use Rattle.std.specs.Prelude.{ℕ, ◌+◌, Bool, true, false, cond, List, [], ◌∷◌, map, ◌==◌, Result, Ok, Err, ⊤}
use Rattle.unicode_io.specs.Names.{property_of, value_of}
use Rattle.unicode_io.specs.Line.{empty, with_byte, entry_of}
use Rattle.unicode_io.specs.Cells.{bit_of, fill, taken, kept_of}
use Rattle.unicode_io.specs.declared.line.Line.{Line}
use Rattle.unicode_io.specs.declared.reading.Reading.{Reading}
use Rattle.unicode_io.specs.declared.reading.Refusal.{Refusal}
use Rattle.unicode_io.specs.declared.reading.Refusal.TheVariants as refused
use Rattle.unicode_io.specs.Grammar.{Entry}
pub mod Laws

-- what was read: the line so far, whether a line was of another form (13), whether two entries overlapped (14); and the cells
pub record State : Type 0 where
  pub reading : Reading
  pub cells : List ℕ

abbrev pub state_of : Reading → List ℕ → State
state_of r cells = record { reading = r; cells = cells }

abbrev pub reading : Line → Bool → Bool → Reading
reading line malformed overlap = record { line = line; malformed = malformed; overlap = overlap }

abbrev pub weight_of : ℕ → ℕ → ℕ
weight_of file name = bit_of (property_of file name) + value_of file name

-- an entry's cells; once two entries have overlapped, no more are filled
unfoldable pub fill_entry : ℕ → Entry → List ℕ → List ℕ
fill_entry file e cells = fill (bit_of (property_of file e.name)) (weight_of file e.name) e.low e.high cells

unfoldable pub taken_by_entry : ℕ → Entry → List ℕ → Bool
taken_by_entry file e cells = taken (bit_of (property_of file e.name)) e.low e.high cells

-- the end of a line that is e
unfoldable pub with_entry : ℕ → Entry → State → State
with_entry file e s =
    cond (e.kind == 0) (state_of (reading empty s.reading.malformed s.reading.overlap) s.cells)
    (cond (e.kind == 2) (state_of (reading empty true s.reading.overlap) s.cells)
    (cond s.reading.overlap (state_of (reading empty s.reading.malformed true) s.cells)
    (state_of (reading empty s.reading.malformed (taken_by_entry file e s.cells)) (fill_entry file e s.cells))))

abbrev pub line_ended : ℕ → State → State
line_ended file s = with_entry file (entry_of file s.reading.line) s

unfoldable pub byte_read : ℕ → State → ℕ → State
byte_read file s b =
    cond (b == 0x0A) (line_ended file s) (state_of (reading (with_byte s.reading.line b) s.reading.malformed s.reading.overlap) s.cells)

unfoldable pub bytes_read : ℕ → State → List ℕ → State
bytes_read file s [] = s
bytes_read file s (b ∷ bs) = bytes_read file (byte_read file s b) bs

-- the end of a file ends its last line, and what is kept of the cells goes on to the next
abbrev pub file_ended : ℕ → State → State
file_ended file s = state_of (line_ended file s).reading (map kept_of (line_ended file s).cells)

abbrev pub number_of : Refusal → ℕ
number_of refused.OtherForm = 13
number_of refused.Overlap = 14

-- the number of a refusal; 0 where there is none
abbrev pub refusal_number : Result ⊤ Refusal → ℕ
refusal_number (Ok u) = 0
refusal_number (Err e) = number_of e
