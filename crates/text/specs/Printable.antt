-- Texts of printable bytes, each of one column: there alone a place and a column are one number. What the contracts of src/printable.rt say.
use Rattle.std.specs.Prelude.{◌≡◌, ℕ, Bool, true, ◌&&◌, List, [], ◌∷◌, length, take}
use Rattle.buffer.specs.Numbers.{smaller_of}
use Rattle.text.specs.Class.Code.{profile_of, printable}
use Rattle.text.specs.Width.{width_of}
use Rattle.text.specs.TextParts.{text_at}
use Rattle.text.specs.declared.class.Profile.{Profile}
use Rattle.text.specs.declared.BytePlace.{BytePlace}
use Rattle.text.specs.declared.Column.{Column}
pub mod Laws

-- every byte is printable
unfoldable pub all_printable : List ℕ → Bool
all_printable [] = true
all_printable (b ∷ s) = printable b && all_printable s

-- the bytes of so many columns: a text of as many is as wide
pub record BytesOf (columns r : ℕ) : Type 0 where
  pub number : r ≡ columns
  pub width : (p : Profile) (s : List ℕ) → all_printable s ≡ true → length s ≡ r → width_of (profile_of p) (text_at s 0) ≡ columns

-- the columns of a text
pub record ColumnsOf (s : List ℕ) (r : Column) : Type 0 where
  pub number : r.0 ≡ length s
  pub width : (p : Profile) → r.0 ≡ width_of (profile_of p) (text_at s 0)

-- the place of a column in a text, or the text's end: so wide is the text before it
pub record PlaceOf (s : List ℕ) (column : ℕ) (r : BytePlace) : Type 0 where
  pub number : r.0 ≡ smaller_of column (length s)
  pub width : (p : Profile) → width_of (profile_of p) (text_at (take r.0 s) 0) ≡ smaller_of column (width_of (profile_of p) (text_at s 0))
