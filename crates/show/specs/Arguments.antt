-- The arguments WIDTH, MODE and START, decimal digits each, and how many arguments there are.
use Rattle.std.specs.Prelude.{ℕ, Bool, ◌&&◌, List, [], ◌∷◌, ◌++◌, ◌≡◌, leb}
use Rattle.rows_io.specs.FirstLine.{empty, with_bytes, in_form}
use Rattle.rows_io.specs.declared.first_line.FirstLine.{FirstLine}
use Rattle.show_io.specs.declared.lines.View.{View}
use Rattle.show.specs.declared.arguments.Arguments.{Arguments}
pub mod Laws
pub mod Vectors

-- two numbers, read as the rows program's first line
unfoldable pub pair_of : List ℕ → List ℕ → FirstLine
unfolding with_bytes
pair_of a b = with_bytes empty (a ++ 0x20 ∷ (b ++ 0x0A ∷ []))

-- a number alone: with 0 for the second
abbrev pub number_of : List ℕ → FirstLine
number_of a = pair_of a (0x30 ∷ [])

abbrev pub view_of : List ℕ → List ℕ → List ℕ → View
view_of w m s = record { mode = (pair_of w m).mode; start = (number_of s).width; width = (pair_of w m).width }

-- WIDTH 1 to 4,096, MODE 0 to 5, START 0 to 65,535
abbrev pub in_range : View → Bool
in_range v = leb 1 v.width && (leb v.width 4096 && (leb v.mode 5 && leb v.start 65535))

unfoldable pub arguments_of : List ℕ → List ℕ → List ℕ → ℕ → Arguments
unfolding pair_of
arguments_of w m s count = record { ok = in_form (pair_of w m) && (in_form (number_of s) && in_range (view_of w m s)); view = view_of w m s; count = count }

-- ---- what the contracts of src/arguments.rt say

-- an argument's text, which the system has; none where it is missing or longer than 32 bytes
pub record ArgumentRead (first : FirstLine) (end : List ℕ) (r : FirstLine) : Type 0 where
  pub text : List ℕ
  pub read : r ≡ with_bytes first (text ++ end)

pub record ArgumentsRead (r : Arguments) : Type 0 where
  pub width : List ℕ
  pub mode : List ℕ
  pub start : List ℕ
  pub count : ℕ
  pub read : r ≡ arguments_of width mode start count
