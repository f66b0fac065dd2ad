-- The rows program's input: the first line, then the line, "which is every byte from there to the end of input".
use Rattle.std.specs.Prelude.{ℕ, true, cond, List, [], ◌∷◌, ◌++◌, length, take, drop, eqb, ltb}
use Rattle.rows_io.specs.FirstLine.{empty, with_bytes, behind}
use Rattle.rows_io.specs.declared.first_line.FirstLine.{FirstLine}
use Rattle.rows_io.specs.declared.input.Input.{Input}
pub mod Laws

-- the first line
abbrev pub first_of : List ℕ → FirstLine
first_of s = with_bytes empty s

-- the line: every byte behind the first newline
unfoldable pub line_of : List ℕ → List ℕ
line_of [] = []
line_of (b ∷ s) = let further : List ℕ = line_of s in cond (eqb b 0x0A) s further

-- what was read so far: what the code goes on with, and the lent buffer for the line
pub record InputState : Type 0 where
  pub input : Input
  pub buffer : List ℕ

abbrev pub state_of : Input → List ℕ → InputState
state_of input buffer = record { input = input; buffer = buffer }

-- a first line, and of the line as much as the buffer has room for, in its front. More is wanted while there is room: the program's
-- buffer has 4,097 bytes, and question 1 refuses a line that fills it
unfoldable pub read_into : FirstLine → (line buffer : List ℕ) → InputState
read_into f line buffer =
    let kept : List ℕ = take (length buffer) line in
    state_of (record { first = f; count = length kept; more = ltb (length kept) (length buffer) }) (kept ++ drop (length kept) buffer)

-- the bytes s of the input, all at once
abbrev pub read_input : (buffer s : List ℕ) → InputState
read_input buffer s = read_into (first_of s) (line_of s) buffer

-- nothing read yet, and one part more: `in_parts` says that parts one after the other are read as all their bytes at once
abbrev pub start : Input
start = record { first = empty; count = 0; more = true }

unfoldable pub with_part : InputState → List ℕ → InputState
with_part h s =
    read_into (with_bytes h.input.first s) (take h.input.count h.buffer ++ behind h.input.first s) h.buffer
