-- What the code keeps: a cell for each scalar. Its low byte holds what the files said of it so far; each bit above stands for a property of the file that is read.
use Rattle.std.specs.Prelude.{◌≡◌, ℕ, zero, suc, ◌+◌, ◌-◌, ◌*◌, ◌/◌, ◌%◌, ◌^◌, Bool, true, false, cond, ◌&&◌, ◌||◌, List, [], ◌∷◌, ◌++◌, map, length, take, drop, ◌==◌, nat_le, nat_lt}
pub mod Laws

abbrev pub bit_of : ℕ → ℕ
bit_of property = 256 * 2 ^ property

abbrev pub is_taken : ℕ → ℕ → Bool
is_taken bit c = c / bit % 2 == 1

-- a cell that is taken stays as it is
unfoldable pub filled : ℕ → ℕ → ℕ → ℕ
filled bit weight c = cond (is_taken bit c) c ((c + weight) % 2 ^ 32)

unfoldable pub taken_in : ℕ → List ℕ → Bool
taken_in bit [] = false
taken_in bit (c ∷ cs) = is_taken bit c || taken_in bit cs

-- the cells of a range; none where there are not so many
unfoldable pub fill : ℕ → ℕ → ℕ → ℕ → List ℕ → List ℕ
fill bit weight low high cells =
    cond (nat_lt high low) cells
    (cond (nat_le (length cells) high) cells
    (take low cells ++ (map (filled bit weight) (take (high + 1 - low) (drop low cells)) ++ drop (high + 1 - low) (drop low cells))))

unfoldable pub taken : ℕ → ℕ → ℕ → List ℕ → Bool
taken bit low high cells = cond (nat_lt high low) false (cond (nat_le (length cells) high) false (taken_in bit (take (high + 1 - low) (drop low cells))))

-- what a function that fills leaves and answers
pub record Filled (list : List ℕ) (test : Bool) (after : List ℕ) (r : Bool) : Type 0 where
  pub cells : after ≡ list
  pub any : r ≡ test

-- what is kept of a file
abbrev pub kept_of : ℕ → ℕ
kept_of c = c % 256

-- ---- what a cell comes to

-- a break class goes before Extended_Pictographic
unfoldable pub class_of : ℕ → ℕ
class_of c = cond (c % 16 == 0) (cond (c / 32 % 2 == 1) 12 11) (cond (nat_le (c % 16) 11) (c % 16 - 1) (c % 16 + 1))

-- CR, LF, Control, Extend, ZWJ, V and T have width 0; else W and F have 2, others 1
unfoldable pub width_of : ℕ → ℕ
unfolding class_of
width_of c = cond (nat_le (class_of c) 4 || (class_of c == 6 || class_of c == 7)) 0 (cond (c / 16 % 2 == 1) 2 1)

unfoldable pub kind_of : ℕ → ℕ
unfolding class_of width_of
kind_of c = c / 64 % 4 * 64 + class_of c * 4 + width_of c
