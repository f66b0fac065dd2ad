-- How many rows a line has at most.
use Rattle.std.specs.Prelude.{◌≡◌, ℕ, ◌+◌, ◌*◌, ◌≤◌, true, List, [], ◌∷◌, length}
use Rattle.text.specs.Class.{Profile}
use Rattle.text.specs.Overstrike.{convert}
use Rattle.spans.specs.Spans.{Content, text, control, invalid, unprintable, escape, tab, crlf, lf, Span, spans}
use Rattle.spans.specs.Calls.{read_call}
use Rattle.rows.specs.Rows.{Mode, rows}
use Rattle.rows.specs.Calls.{mode_and_width, rows_call}
pub mod Wraps
pub mod Reading
pub mod Proof
pub mod Examples

-- what wrapping can part a span into: a text's scalars, and a mark, an Unprintable span or a tab, which are one
unfoldable pub parts_of : Content → ℕ
parts_of (text m s) = length s
parts_of (control b) = 1
parts_of (invalid b) = 1
parts_of (unprintable s) = 1
parts_of (escape e) = 0
parts_of tab = 1
parts_of crlf = 0
parts_of lf = 0

unfoldable pub parts : List Span → ℕ
unfolding parts_of
parts [] = 0
parts (s ∷ ss) = parts_of s.content + parts ss

-- in every mode, at every width: two for each part, and one more
abbrev pub RowsOfParts : Profile → Type 0
RowsOfParts P = (width : ℕ) (mode : Mode) (ss : List Span) → length (rows P width mode ss) ≤ 2 * parts ss + 1

-- a line of n bytes has at most 2 n + 1
abbrev pub RowsOfBytes : Profile → Type 0
RowsOfBytes P = (width : ℕ) (mode : Mode) (line : List ℕ) → length (rows P width mode (spans P (convert P line))) ≤ 2 * length line + 1

-- so `rows` is never refused 6 where it is lent 4 n + 2 numbers
abbrev pub RowListSize : Profile → Type 0
RowListSize P =
    (conv places numbers width mode : ℕ) (line : List ℕ) → (read_call P conv places [] line).number ≡ 0 → mode_and_width mode width ≡ true → 4 * length line + 2 ≤ numbers
    → (rows_call P conv places numbers width mode line).number ≡ 0
