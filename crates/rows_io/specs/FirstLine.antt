-- The first line of the rows program's input: width, space, mode (decimal digits), newline.
use Rattle.std.specs.Prelude.{ℕ, suc, ◌+◌, ◌-◌, ◌*◌, Bool, true, false, cond, ◌&&◌, List, [], ◌∷◌, drop, eqb, leb}
use Rattle.rows_io.specs.declared.first_line.FirstLine.{FirstLine}
use Rattle.rows_io.specs.declared.first_line.Part.{Part}
pub mod Form
pub mod Laws
pub mod Vectors

abbrev pub digit : ℕ → Bool
digit b = leb 0x30 b && leb b 0x39

-- one digit more; a number that has passed 65,535 stays where it is: question 5 refuses every such number
abbrev pub more : ℕ → ℕ → ℕ
more v b = cond (leb v 65535) (v * 10 + (b - 0x30)) v

-- nothing read yet
abbrev pub empty : FirstLine
empty = record { stage = 0; digits = false; width = 0; mode = 0; ended = false }

-- one byte more: stage 0 stands in the width, 1 in the mode, 2 in a line of another form
unfoldable pub with_digit : FirstLine → ℕ → FirstLine
with_digit f b =
    cond (eqb f.stage 0) (record { stage = 0; digits = true; width = more f.width b; mode = f.mode; ended = false })
    (cond (eqb f.stage 1) (record { stage = 1; digits = true; width = f.width; mode = more f.mode b; ended = false }) f)

unfoldable pub with_byte : FirstLine → ℕ → FirstLine
unfolding with_digit
with_byte f b =
    cond (eqb b 0x0A) (record { stage = f.stage; digits = f.digits; width = f.width; mode = f.mode; ended = true })
    (cond (digit b) (with_digit f b)
    (cond (eqb b 0x20 && (eqb f.stage 0 && f.digits)) (record { stage = 1; digits = false; width = f.width; mode = f.mode; ended = false })
    (record { stage = 2; digits = f.digits; width = f.width; mode = f.mode; ended = false })))

-- the bytes up to the newline
unfoldable pub with_bytes : FirstLine → List ℕ → FirstLine
unfolding with_byte
with_bytes f [] = f
with_bytes f (b ∷ s) = let g : FirstLine = with_bytes (with_byte f b) s in cond f.ended f g

-- how many of them there are
unfoldable pub read_of : FirstLine → List ℕ → ℕ
unfolding with_byte
read_of f [] = 0
read_of f (b ∷ s) = let n : ℕ = suc (read_of (with_byte f b) s) in cond f.ended 0 n

-- what stands behind them
abbrev pub behind : FirstLine → List ℕ → List ℕ
behind f s = drop (read_of f s) s

-- width, space, mode, newline
abbrev pub in_form : FirstLine → Bool
in_form f = f.ended && (eqb f.stage 1 && f.digits)

-- a line of another form is a "no" to question 5
abbrev pub width_of : FirstLine → ℕ
width_of f = cond (in_form f) f.width 65536

-- the first line so far and the place behind it
abbrev pub part_of : FirstLine → List ℕ → Part
part_of f s = record { first = with_bytes f s; at = read_of f s }
