-- What the program `show` prints for a line: its rows one after the other, or a refusal in its place.
use Prim.Native.Nat.{ℕ, zero, suc, ◌+◌, ◌-◌, ◌*◌}
use Rattle.std.specs.Prelude.{Bool, length, take, get_or, eqb, leb, ltb}
use Rattle.std.proofs.Math.Bool.{cond}
use mathlib.Core.List.{List, [], ◌∷◌, ◌++◌}
use Rattle.std.proofs.Math.Option.{none}
use Rattle.text.specs.Width.{profile01}
use Rattle.text.specs.Calls.{Written}
use Rattle.spans.specs.Calls.{Read, read_call}
use Rattle.rows.specs.Calls.{height_call, rows_call}
use Rattle.drawing.specs.Calls.{Drawn, window_call, row_call}
use Rattle.screen.specs.Calls.{screen_call}
use Rattle.rows_io.specs.Output.{decimal}
use Rattle.show_io.specs.declared.lines.View.{View}
use Rattle.show_io.specs.Ansi.{cells, row_text}
use Rattle.show_io.specs.SpanText.{records_text}
pub mod Vectors
pub mod Contracts

-- ---- a row

-- the reader
abbrev pub bench : ℕ
bench = 0

-- the column behind a window; the largest number where the sum has more than 8 bytes
abbrev pub window_end : View → ℕ
window_end v = cond (leb v.width (0xFFFFFFFFFFFFFFFF - v.start)) (v.start + v.width) 0xFFFFFFFFFFFFFFFF

-- mode 0 draws the window, others the row with an index
unfoldable pub drawn_row : (conv places room : ℕ) (view : View) (first : ℕ) (line : List ℕ) → Drawn
unfolding window_call row_call
drawn_row conv places room view first line =
    cond (eqb view.mode 0) (window_call profile01 bench conv places room view.start (window_end view) none [] line)
    (row_call profile01 bench conv places room first 1 view.width view.mode none [] line)

-- a refusal's number, 0 for none, and what is printed
pub record Printed : Type 0 where
  pub number : ℕ
  pub text : List ℕ

abbrev pub printed : ℕ → List ℕ → Printed
printed n t = record { number = n; text = t }

-- what is printed unless a call was refused with a number
abbrev pub unless : ℕ → Printed → Printed
unless n p = cond (eqb n 0) p (printed n [])

-- a screen row and a newline
unfoldable pub screen_text : List ℕ → Written → Printed
unfolding cells row_text
screen_text line t = unless t.number (printed 0 (row_text line (cells (take t.count t.out)) ++ (0x0A ∷ [])))

-- a change list in a screen row of so many columns, which `room` bytes are lent for
unfoldable pub list_text : (room columns : ℕ) (line list : List ℕ) → Printed
unfolding screen_call screen_text
list_text room columns line list = screen_text line (screen_call profile01 columns room list)

unfoldable pub row_of : (room columns : ℕ) → Drawn → Printed
unfolding list_text
row_of room columns d = unless d.number (list_text room columns d.conv (take d.count d.list))

-- the columns of a row with an index, or the width where that is more; a row has more where one unit is wider
abbrev pub columns_in : List ℕ → ℕ → ℕ → ℕ
columns_in rows width first =
    let n : ℕ = get_or rows (2 * first + 1) 0 - get_or rows (2 * first) 0 in
    cond (leb n width) width n

unfoldable pub columns_of : (view : View) (first : ℕ) (line : List ℕ) → ℕ
unfolding rows_call
columns_of view first line = cond (eqb view.mode 0) view.width (columns_in (rows_call profile01 32768 2048 16384 view.width view.mode line).rows view.width first)

-- little memory has no room for the conversion of a line of more than 256 bytes (question 2)
abbrev pub is_long : List ℕ → Bool
is_long line = ltb 256 (length line)

-- bytes for the cells of most rows
abbrev pub cells_room : ℕ → ℕ
cells_room width = cond (leb width 128) 4096 16384

-- a row in the width's columns, with memory that is enough for most lines; and where that is refused, in its own columns with more
unfoldable pub small_row : (view : View) (line : List ℕ) (first : ℕ) → Printed
unfolding row_of drawn_row
small_row view line first = row_of (cells_room view.width) view.width (drawn_row 2048 64 2048 view first line)

unfoldable pub large_row : (view : View) (line : List ℕ) (first : ℕ) → Printed
unfolding row_of drawn_row columns_of
large_row view line first = row_of 262144 (columns_of view first line) (drawn_row 32768 2048 131072 view first line)

unfoldable pub line_row : (view : View) (line : List ℕ) (first : ℕ) → Printed
unfolding small_row large_row
line_row view line first =
    let a : Printed = small_row view line first in
    let b : Printed = large_row view line first in
    cond (is_long line) b (cond (eqb a.number 0) a b)

-- ---- refusals

-- why a line is refused: the words of the question, where the program's arguments and memory leave it a "no"; 9 is of what is printed
unfoldable pub words : ℕ → List ℕ
words n =
    cond (eqb n 1) (0x74 ∷ 0x68 ∷ 0x65 ∷ 0x20 ∷ 0x6C ∷ 0x69 ∷ 0x6E ∷ 0x65 ∷ 0x20 ∷ 0x68 ∷ 0x61 ∷ 0x73 ∷ 0x20 ∷ 0x6D ∷ 0x6F ∷ 0x72 ∷ 0x65 ∷ 0x20 ∷ 0x74 ∷ 0x68 ∷ 0x61 ∷ 0x6E ∷ 0x20 ∷ 0x34 ∷ 0x2C ∷ 0x30 ∷ 0x39 ∷ 0x36 ∷ 0x20 ∷ 0x62 ∷ 0x79 ∷ 0x74 ∷ 0x65 ∷ 0x73 ∷ [])
    (cond (eqb n 4) (0x6D ∷ 0x6F ∷ 0x72 ∷ 0x65 ∷ 0x20 ∷ 0x73 ∷ 0x70 ∷ 0x61 ∷ 0x6E ∷ 0x73 ∷ 0x20 ∷ 0x74 ∷ 0x68 ∷ 0x61 ∷ 0x6E ∷ 0x20 ∷ 0x74 ∷ 0x68 ∷ 0x65 ∷ 0x20 ∷ 0x6C ∷ 0x69 ∷ 0x73 ∷ 0x74 ∷ 0x20 ∷ 0x68 ∷ 0x61 ∷ 0x73 ∷ 0x20 ∷ 0x70 ∷ 0x6C ∷ 0x61 ∷ 0x63 ∷ 0x65 ∷ 0x73 ∷ [])
    (cond (eqb n 5) (0x61 ∷ 0x20 ∷ 0x6E ∷ 0x75 ∷ 0x6D ∷ 0x62 ∷ 0x65 ∷ 0x72 ∷ 0x20 ∷ 0x62 ∷ 0x65 ∷ 0x79 ∷ 0x6F ∷ 0x6E ∷ 0x64 ∷ 0x20 ∷ 0x69 ∷ 0x74 ∷ 0x73 ∷ 0x20 ∷ 0x6C ∷ 0x69 ∷ 0x6D ∷ 0x69 ∷ 0x74 ∷ [])
    (cond (eqb n 8) (0x61 ∷ 0x20 ∷ 0x63 ∷ 0x6C ∷ 0x75 ∷ 0x73 ∷ 0x74 ∷ 0x65 ∷ 0x72 ∷ 0x20 ∷ 0x77 ∷ 0x69 ∷ 0x64 ∷ 0x65 ∷ 0x72 ∷ 0x20 ∷ 0x74 ∷ 0x68 ∷ 0x61 ∷ 0x6E ∷ 0x20 ∷ 0x74 ∷ 0x68 ∷ 0x65 ∷ 0x20 ∷ 0x77 ∷ 0x69 ∷ 0x6E ∷ 0x64 ∷ 0x6F ∷ 0x77 ∷ [])
    (cond (eqb n 9) (0x6D ∷ 0x6F ∷ 0x72 ∷ 0x65 ∷ 0x20 ∷ 0x74 ∷ 0x6F ∷ 0x20 ∷ 0x70 ∷ 0x72 ∷ 0x69 ∷ 0x6E ∷ 0x74 ∷ 0x20 ∷ 0x74 ∷ 0x68 ∷ 0x61 ∷ 0x6E ∷ 0x20 ∷ 0x74 ∷ 0x68 ∷ 0x65 ∷ 0x72 ∷ 0x65 ∷ 0x20 ∷ 0x69 ∷ 0x73 ∷ 0x20 ∷ 0x72 ∷ 0x6F ∷ 0x6F ∷ 0x6D ∷ 0x20 ∷ 0x66 ∷ 0x6F ∷ 0x72 ∷ [])
    (0x6E ∷ 0x6F ∷ 0x74 ∷ 0x20 ∷ 0x64 ∷ 0x72 ∷ 0x61 ∷ 0x77 ∷ 0x6E ∷ [])))))

-- `: refused N: words`
unfoldable pub refused_text : ℕ → List ℕ
unfolding decimal words
refused_text number = (0x3A ∷ 0x20 ∷ 0x72 ∷ 0x65 ∷ 0x66 ∷ 0x75 ∷ 0x73 ∷ 0x65 ∷ 0x64 ∷ 0x20 ∷ []) ++ (decimal number ++ ((0x3A ∷ 0x20 ∷ []) ++ (words number ++ (0x0A ∷ []))))

-- behind the file's name and the line's number there
unfoldable pub refusal_text : (name : List ℕ) (line number : ℕ) → List ℕ
unfolding decimal refused_text
refusal_text name line number = name ++ ((0x3A ∷ []) ++ (decimal line ++ refused_text number))

-- ---- a line

-- how many rows it has; a window is one
unfoldable pub height_of : (view : View) (line : List ℕ) → Read
unfolding height_call
height_of view line =
    let a : Read = height_call profile01 2048 64 view.width view.mode line in
    let b : Read = height_call profile01 32768 2048 view.width view.mode line in
    cond (is_long line) b (cond (eqb a.number 0) a b)

-- the spans that `read` found
unfoldable pub read_text : (name : List ℕ) (number : ℕ) → Read → List ℕ
unfolding records_text refusal_text
read_text name number c =
    let all : List ℕ = records_text number c.conv (take c.count c.spans) in
    let refusal : List ℕ = refusal_text name number c.number in
    cond (eqb c.number 0) all refusal

-- with memory that is enough for 4,096 bytes
unfoldable pub spans_text : (name : List ℕ) (number : ℕ) (line : List ℕ) → List ℕ
unfolding read_text read_call
spans_text name number line = read_text name number (read_call profile01 32768 2048 [] line)

module _ (name : List ℕ) (number : ℕ) (view : View) (line : List ℕ) where
  -- n rows from one on; a refused one is the last
  unfoldable pub rows_from : ℕ → ℕ → List ℕ
  unfolding line_row refusal_text
  rows_from first zero = []
  rows_from first (suc n) =
      let p : Printed = line_row view line first in
      let more : List ℕ = p.text ++ rows_from (suc first) n in
      cond (eqb p.number 0) more (refusal_text name number p.number)

  -- as many rows as the line has
  unfoldable pub all_rows : Read → List ℕ
  unfolding rows_from refusal_text
  all_rows h =
      let all : List ℕ = rows_from 0 h.count in
      let refusal : List ℕ = refusal_text name number h.number in
      cond (eqb h.number 0) all refusal

  -- the line with a number in a file
  unfoldable pub line_text : List ℕ
  unfolding rows_from all_rows height_of spans_text
  line_text =
      let window : List ℕ = rows_from 0 1 in
      let spans : List ℕ = spans_text name number line in
      let wrapped : List ℕ = all_rows (height_of view line) in
      cond (eqb view.mode 0) window (cond (eqb view.mode 5) spans wrapped)
