-- The code's modes, by their numbers.
use Rattle.std.specs.Prelude.{◌≡◌, ℕ, ◌<◌, Bool, true, false, not, ltb, Result, MatchResult}
use Rattle.rows.specs.Calls.{mode_and_width}
use Rattle.text.specs.declared.refusal.Refusal.{Refusal}
use Rattle.text.specs.declared.refusal.Refusal.TheVariants.{OutOfRange}
use Rattle.rows.specs.declared.modes.Mode.{Mode}
use Rattle.rows.specs.declared.modes.Mode.TheVariants.{Unwrapped, GraphemeBoundary, WordBoundary, GraphemeBoundaryDrawn, WordBoundaryDrawn}

abbrev pub number_of_mode : Mode → ℕ
number_of_mode Unwrapped = 0
number_of_mode GraphemeBoundary = 1
number_of_mode WordBoundary = 2
number_of_mode GraphemeBoundaryDrawn = 3
number_of_mode WordBoundaryDrawn = 4

-- the mode with a number, or a refusal where none has it
abbrev pub Numbered : ℕ → Result Mode Refusal → Type 0
Numbered n r = MatchResult r (λ m. number_of_mode m ≡ n) (λ e. (e ≡ OutOfRange) × (4 < n))

-- question 5 admits a mode and a width, and the mode has the number, or it refuses them
abbrev pub Asked : (mode width : ℕ) → Result Mode Refusal → Type 0
Asked mode width r = MatchResult r (λ m. (number_of_mode m ≡ mode) × (mode_and_width mode width ≡ true)) (λ e. (e ≡ OutOfRange) × (mode_and_width mode width ≡ false))

-- an Unprintable span counts the columns that it draws, by the mode's number
abbrev pub counts_drawn : ℕ → Bool
counts_drawn mode = not (ltb mode 3)
