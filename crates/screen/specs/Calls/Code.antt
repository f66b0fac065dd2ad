-- What the contracts of src/lib.rt say: a call's answer, and what the screen that a list leaves makes of it.
use Rattle.std.specs.Prelude.{ℕ, ◌-◌, cond, List, ◌++◌, length, take, replicate, leb}
use Rattle.std.proofs.Math.Option.{Option, none, some}
use Rattle.text.specs.Calls.{Written}
use Rattle.screen.specs.Row.{Screen, row_bytes}
pub mod Laws

abbrev pub refusal : ℕ → ℕ → Written
refusal r room = record { number = r; count = 0; out = replicate room 0 }

-- bytes, and zeros after them
abbrev pub accepted : List ℕ → ℕ → Written
accepted bytes room = record { number = 0; count = length bytes; out = bytes ++ replicate (room - length bytes) 0 }

-- bytes, where there is room for them
abbrev pub in_room : List ℕ → ℕ → Written
in_room bytes room = cond (leb (length bytes) room) (accepted bytes room) (refusal 9 room)

-- the first n bytes of a buffer, where it has them all
abbrev pub kept : List ℕ → ℕ → Written
kept l n = cond (leb n (length l)) (record { number = 0; count = n; out = take n l ++ replicate (length l - n) 0 }) (refusal 9 (length l))

-- what an accepted call leaves
abbrev pub left_by : Written → List ℕ
left_by w = take w.count w.out

unfoldable pub shown_of : Option Screen → ℕ → Written
unfolding row_bytes
shown_of none room = refusal 10 room
shown_of (some t) room = cond t.passed (refusal 11 room) (in_room (row_bytes t.cells) room)
