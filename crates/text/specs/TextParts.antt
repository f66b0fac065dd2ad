-- Parts of a text: its scalars from a place on, and what a `TextPart` says of some of them.
use Rattle.std.specs.Prelude.{◌≡◌, ℕ, ◌+◌, ◌-◌, ◌*◌, ◌≤◌, List, length, drop}
use Rattle.text.specs.Utf8.{Scalar, decode}
use Rattle.text.specs.Class.{Profile}
use Rattle.text.specs.Width.{width_of}
use Rattle.text.specs.Utf8.Code.{run_of, size}
use Rattle.text.specs.declared.BytePlace.{BytePlace}
use Rattle.text.specs.declared.Column.{Column}
use Rattle.text.specs.declared.TextPart.{TextPart}
pub mod Laws

abbrev pub place : ℕ → BytePlace
place n = record { 0 = n }

abbrev pub column : ℕ → Column
column n = record { 0 = n }

-- the text from a place on, up to a damaged byte
abbrev pub text_at : List ℕ → ℕ → List Scalar
text_at s p = run_of (decode (drop p s))

-- the part from a place on that holds these scalars
pub record Measured (P : Profile) (s : List ℕ) (at : ℕ) (front : List Scalar) (r : TextPart) : Type 0 where
  pub end : r.end.0 ≡ at + size front
  pub width : r.width.0 ≡ width_of P front
  pub inside : r.end.0 ≤ length s
  pub small : r.width.0 ≤ 2 * (r.end.0 - at)
