-- A drawing's change list on a screen row: what is asked of the profile and the line, and the columns that its texts take.
use Rattle.std.specs.Prelude.{List, [], ◌∷◌, ℕ, ◌+◌, ◌-◌, ◌*◌, ◌≤◌, length}
use Rattle.text.specs.Each.{All}
use Rattle.text.specs.Utf8.{Scalar}
use Rattle.text.specs.Utf8.Valid.{Valid}
use Rattle.text.specs.Utf8.Code.{size}
use Rattle.text.specs.Class.{Profile}
use Rattle.text.specs.Class.Ascii.{AsciiClasses}
use Rattle.text.specs.Width.{width_of}
use Rattle.text.specs.Width.Symbols.{SymbolColumns}
use Rattle.spans.specs.Spans.{Span}
use Rattle.rows.specs.Rows.{Row, Mode, rows}
use Rattle.drawing.specs.Draw.{wrap_bounds}
use Rattle.drawing.specs.Change.{Change, text, torn, all_attributes, clear_to_end, cursor_right}
use Rattle.text.specs.Class.Symbols.{SymbolClasses}
use Rattle.text.specs.Overstrike.Bytes.{Byte}
pub mod Texts
pub mod LineDrawing
pub mod Clip
pub mod Attributes
pub mod Spans
pub mod WellFormed
pub mod Columns
pub mod Readers

-- what is asked of a profile: ASCII as document 01 has it, symbols of class other and one column, two columns a byte at most
pub record ProfileLaws (P : Profile) : Type 0 where
  pub ascii : AsciiClasses P
  pub symbols : SymbolClasses P
  pub symbol_columns : SymbolColumns P
  pub narrow : (s : List Scalar) → All Valid s → width_of P s ≤ 2 * size s

-- a converted line
pub record Line (s : List ℕ) : Type 0 where
  pub bytes : All Byte s
  pub short : length s ≤ 32768

-- the columns of a list's texts without a right arrow's two: its 08 has no width, and its `>` stands behind kind 4, which nothing else sends
unfoldable pub columns : Profile → List Change → ℕ
unfolding width_of
columns P [] = 0
columns P (text s ∷ cs) = width_of P s + columns P cs
columns P (torn ∷ cs) = columns P cs
columns P (all_attributes a ∷ cs) = columns P cs
columns P (clear_to_end c ∷ cs) = columns P cs
columns P (cursor_right ∷ cs) = 0

-- the columns from the start of a row drawing's first row to the end of its last
unfoldable pub row_columns : Profile → (first count width : ℕ) → Mode → List Span → ℕ
row_columns P first count width mode ss =
    let bounds : Row = wrap_bounds first count (rows P width mode ss) in
    bounds.end - bounds.start
