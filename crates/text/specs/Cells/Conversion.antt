-- Document 02, U11: converting what was written for cells gives their bytes with the style orders of the transition table, ending in normal.
use Rattle.std.specs.Prelude.{ℕ, ◌*◌, ◌-◌, ◌≤◌, true, List, ◌++◌, ◌≡◌, length, replicate, take}
use Rattle.text.specs.Class.{Profile, control, number, other}
use Rattle.text.specs.Class.Code.{printable}
use Rattle.text.specs.Overstrike.{convert, normal}
use Rattle.text.specs.Cells.{are_cells, overstruck_cells, styled}
use Rattle.text.specs.Calls.{convert_call, write_cells_call}
pub mod Proof

-- 08 is Control, and 20 to 7E have no break class
pub record OverstrikeClasses (P : Profile) : Type 0 where
  pub backspace : number (P.class 0x08) ≡ number control
  pub plain : (b : ℕ) → printable b ≡ true → number (P.class b) ≡ number other

-- for every list of cells, also those that write more than 4,096 bytes
abbrev pub CellsConvert : Profile → Type 0
CellsConvert P = (cells : List ℕ) → are_cells cells ≡ true → convert P (overstruck_cells cells) ≡ styled normal cells

-- the call `convert`, lent 8 times the count or more, accepts what the call `write_cells` wrote and leaves the styled bytes and zeros
abbrev pub WrittenConverts : Profile → Type 0
WrittenConverts P =
    (room conv : ℕ) (cells : List ℕ)
    → (write_cells_call room cells).number ≡ 0
    → 8 * (write_cells_call room cells).count ≤ conv
    → convert_call P conv (take (write_cells_call room cells).count (write_cells_call room cells).out) ≡ record { number = 0; count = length (styled normal cells); conv = styled normal cells ++ replicate (conv - length (styled normal cells)) 0 }
