-- Overstruck reports (document 02, U11): cells, what is written for them, and the line that this converts to.
use Rattle.std.specs.Prelude.{ℕ, Bool, true, false, cond, not, ◌&&◌, List, [], ◌∷◌, ◌++◌, eqb, leb}
use Rattle.text.specs.Class.Code.{printable}
use Rattle.text.specs.Overstrike.{Style, normal, bold, underline, bold_underline, order}
pub mod Laws
pub mod Code
pub mod Conversion
pub mod Vectors

-- a cell is two bytes: one 20 to 7E except 5F, then 0 normal, 1 bold, 2 underline or 3 both
abbrev pub is_cell : ℕ → ℕ → Bool
is_cell b s = printable b && (not (eqb b 0x5F) && leb s 3)

abbrev pub cell_style : ℕ → Style
cell_style s = cond (eqb s 0) normal (cond (eqb s 1) bold (cond (eqb s 2) underline bold_underline))

-- the bytes are whole cells
unfoldable pub are_cells : List ℕ → Bool
are_cells [] = true
are_cells (b ∷ []) = false
are_cells (b ∷ s ∷ cells) = is_cell b s && are_cells cells

-- what is written for a byte in a style
unfoldable pub overstruck : Style → ℕ → List ℕ
overstruck normal b = b ∷ []
overstruck bold b = b ∷ 0x08 ∷ b ∷ []
overstruck underline b = 0x5F ∷ 0x08 ∷ b ∷ []
overstruck bold_underline b = 0x5F ∷ 0x08 ∷ b ∷ 0x08 ∷ b ∷ []

-- and for cells
unfoldable pub overstruck_cells : List ℕ → List ℕ
unfolding overstruck
overstruck_cells [] = []
overstruck_cells (b ∷ []) = []
overstruck_cells (b ∷ s ∷ cells) = overstruck (cell_style s) b ++ overstruck_cells cells

-- the cells' bytes behind a byte of some style, with the style orders between them, ending in normal
unfoldable pub styled : Style → List ℕ → List ℕ
unfolding order
styled before [] = order before normal
styled before (b ∷ []) = order before normal
styled before (b ∷ s ∷ cells) = order before (cell_style s) ++ (b ∷ styled (cell_style s) cells)
