-- Lines with and without a drawn cluster that begins left of the window and ends right of it, computed.
use Rattle.std.specs.Prelude.{ℕ, Bool, true, not, ◌&&◌, List, [], ◌∷◌, replicate, T, eqb}
use Rattle.std.proofs.Math.Option.{none}
use Rattle.text.specs.Width.{profile01}
use Rattle.spans.specs.Spans.{spans}
use Rattle.spans.specs.Search.{in_order, searched_length}
use Rattle.drawing.specs.Draw.{window_start}
use Rattle.drawing.specs.Straddled.{straddled}
use Rattle.drawing.specs.Calls.{window_call, row_call}

unfoldable all : List Bool → Bool
all [] = true
all (b ∷ bs) = b && all bs

-- U+6F22
abbrev wide : List ℕ
wide = 0xE6 ∷ 0xBC ∷ 0xA2 ∷ []

-- U+1100 twice: one cluster of 4 columns
abbrev four_columns : List ℕ
four_columns = 0xE1 ∷ 0x84 ∷ 0x80 ∷ 0xE1 ∷ 0x84 ∷ 0x80 ∷ []

-- in a window drawing's window
abbrev cut : (start end : ℕ) (line : List ℕ) → Bool
cut start end line = straddled profile01 (window_start start) end (spans profile01 line)

windows : T (all (
    cut 1 2 (0x61 ∷ wide)
    ∷ not (cut 1 3 (0x61 ∷ wide))
    ∷ not (cut 0 1 wide)
    ∷ cut 1 3 four_columns
    ∷ not (cut 1 4 four_columns)
    -- a byte's mark, a tab, a scalar's mark: clusters of one column
    ∷ not (cut 1 2 (0xFF ∷ []))
    ∷ not (cut 1 2 (0x09 ∷ []))
    ∷ not (cut 1 2 (0xCC ∷ 0x81 ∷ []))
    -- columns 4, 8 and 8 after a mark, a tab and a mark
    ∷ cut 4 5 (0xFF ∷ wide)
    ∷ cut 8 9 (0x61 ∷ 0x09 ∷ wide)
    ∷ cut 8 9 (0xCC ∷ 0x81 ∷ wide)
    -- line drawing on: `q` is drawn as U+2500, and U+6F22 as it is
    ∷ cut 1 2 (0x1B ∷ 0x28 ∷ 0x30 ∷ 0x71 ∷ wide)
    ∷ not (cut 1 2 (0x1B ∷ 0x28 ∷ 0x30 ∷ 0x71 ∷ 0x71 ∷ 0x71 ∷ []))
    ∷ []))
unfolding all straddled spans profile01
windows = tt

-- ---- the numbers that the calls return

abbrev window : (start end : ℕ) (line : List ℕ) → ℕ
window start end line = (window_call profile01 0 256 8 256 start end none [] line).number

-- one row at width 80 in mode 1
abbrev one_row : (first : ℕ) (line : List ℕ) → ℕ
one_row first line = (row_call profile01 0 256 8 256 first 1 80 1 none [] line).number

-- U+0301 twice, which counts 8 columns and draws 16, U+6F22 at column 16, seven letters: one row that ends at column 17
abbrev past_the_row : List ℕ
past_the_row = 0xCC ∷ 0x81 ∷ 0xCC ∷ 0x81 ∷ 0xE6 ∷ 0xBC ∷ 0xA2 ∷ replicate 7 0x61

numbers : T (all (
    eqb (window 1 2 (0x61 ∷ wide)) 8
    ∷ eqb (window 1 3 (0x61 ∷ wide)) 0
    ∷ eqb (window 0 1 wide) 0
    -- question 7 says no before 8
    ∷ (cut 1 1 (0x61 ∷ wide) && eqb (window 1 1 (0x61 ∷ wide)) 7)
    ∷ eqb (one_row 0 past_the_row) 0
    -- a row after the last: the window is column 17
    ∷ eqb (one_row 1 past_the_row) 8
    ∷ []))
unfolding all window_call row_call profile01 in_order searched_length straddled spans
numbers = tt
