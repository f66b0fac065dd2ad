-- What the contracts of src/input.rt say.
use Rattle.std.specs.Prelude.{ℕ, ◌-◌, ◌≤◌, cond, List, ◌++◌, ◌≡◌, length, take, drop, eqb}
use Rattle.buffer.specs.Sink.{Sink, sink}
use Rattle.show_io.specs.Input.{State, state, Read, read, pieces, with_line}
use Rattle.show_io.specs.declared.lines.View.{View}
use Rattle.show_io.specs.declared.input.Reading.{Reading}
use Rattle.show_io.specs.declared.input.Progress.{Progress}

-- the line in the front of its buffer, and its length
pub record Kept (before : List ℕ) (kept : ℕ) (piece after : List ℕ) (r : ℕ) : Type 0 where
  pub line : take r after ≡ take kept before ++ take (length before - kept) piece
  pub within : r ≤ length after
  pub long : length after ≡ length before

-- what the code goes on with: numbers, the line's buffer and the one for what is printed
abbrev pub state_of : Reading → List ℕ → List ℕ → State
state_of r line out = state r.number (take r.kept line) (sink out r.at)

abbrev pub read_of : Progress → List ℕ → List ℕ → List ℕ → Read
read_of r part line out = read (state_of r.reading line out) (pieces (drop r.place part))

-- what the last line prints, where no newline ends it
abbrev pub last_of : List ℕ → View → Reading → List ℕ → List ℕ → Sink ℕ
last_of name view r line out = cond (eqb r.kept 0) (sink out r.at) (with_line name view (state_of r line out) (take r.kept line))
