-- Cells tried: what the call answers, and what comes of converting.
use Rattle.std.specs.Prelude.{ℕ, zero, suc, List, [], ◌∷◌, ◌++◌, ◌≡◌, refl}
use Rattle.text.specs.Calls.{write_cells_call}
use Rattle.text.specs.Cells.{overstruck_cells, styled}
use Rattle.text.specs.Overstrike.{convert, normal}
use Rattle.text.specs.Width.{profile01}

unfoldable times : ℕ → List ℕ → List ℕ
times zero cell = []
times (suc n) cell = cell ++ times n cell

number : (room : ℕ) (cells : List ℕ) → ℕ
unfolding write_cells_call
number room cells = (write_cells_call room cells).number

-- no cells, each style, zeros behind
none : write_cells_call 2 [] ≡ record { number = 0; count = 0; out = 0 ∷ 0 ∷ [] }
unfolding write_cells_call
none = refl

each : write_cells_call 14 (0x61 ∷ 0 ∷ 0x62 ∷ 1 ∷ 0x20 ∷ 2 ∷ 0x7E ∷ 3 ∷ [])
    ≡ record { number = 0; count = 12; out = 0x61 ∷ 0x62 ∷ 0x08 ∷ 0x62 ∷ 0x5F ∷ 0x08 ∷ 0x20 ∷ 0x5F ∷ 0x08 ∷ 0x7E ∷ 0x08 ∷ 0x7E ∷ 0 ∷ 0 ∷ [] }
unfolding write_cells_call
each = refl

-- 16: half a cell, a style digit, 5F, 1F, 7F, a style above 3
half : number 9 (0x61 ∷ 0 ∷ 0x62 ∷ []) ≡ 16
unfolding number
half = refl

digit : number 9 (0x61 ∷ 0x31 ∷ []) ≡ 16
unfolding number
digit = refl

underscore : number 9 (0x61 ∷ 0 ∷ 0x5F ∷ 0 ∷ []) ≡ 16
unfolding number
underscore = refl

low : number 9 (0x1F ∷ 0 ∷ []) ≡ 16
unfolding number
low = refl

high : number 9 (0x7F ∷ 0 ∷ []) ≡ 16
unfolding number
high = refl

four : number 9 (0x61 ∷ 4 ∷ []) ≡ 16
unfolding number
four = refl

-- the order: 16 of any cell, then 1, then 17
room : write_cells_call 2 (0x61 ∷ 1 ∷ []) ≡ record { number = 17; count = 0; out = 0 ∷ 0 ∷ [] }
unfolding write_cells_call
room = refl

limit : number 0 (times 819 (0x61 ∷ 3 ∷ []) ++ (0x61 ∷ 0 ∷ [])) ≡ 17
unfolding number times
limit = refl

above : number 0 (times 820 (0x61 ∷ 3 ∷ [])) ≡ 1
unfolding number times
above = refl

above_half : number 0 (times 820 (0x61 ∷ 3 ∷ []) ++ (0x61 ∷ [])) ≡ 16
unfolding number times
above_half = refl

-- styled: no order between cells of one style, each of the twelve transitions once
space : styled normal (0x20 ∷ 2 ∷ []) ≡ 0x1B ∷ 0x5B ∷ 0x34 ∷ 0x6D ∷ 0x20 ∷ 0x1B ∷ 0x5B ∷ 0x32 ∷ 0x34 ∷ 0x6D ∷ []
unfolding styled
space = refl

same : styled normal (0x61 ∷ 1 ∷ 0x62 ∷ 1 ∷ []) ≡ 0x1B ∷ 0x5B ∷ 0x31 ∷ 0x6D ∷ 0x61 ∷ 0x62 ∷ 0x1B ∷ 0x5B ∷ 0x32 ∷ 0x32 ∷ 0x6D ∷ []
unfolding styled
same = refl

abbrev twelve : List ℕ
twelve = 0x61 ∷ 1 ∷ 0x61 ∷ 2 ∷ 0x61 ∷ 3 ∷ 0x20 ∷ 1 ∷ 0x62 ∷ 3 ∷ 0x62 ∷ 2 ∷ 0x7E ∷ 1 ∷ 0x62 ∷ 0 ∷ 0x62 ∷ 2 ∷ 0x62 ∷ 0 ∷ 0x6D ∷ 3 ∷ 0x5B ∷ 0 ∷ 0x61 ∷ 1 ∷ []

converts : convert profile01 (overstruck_cells twelve) ≡ styled normal twelve
unfolding convert overstruck_cells styled profile01
converts = refl
