-- What the contracts of src/clip.rt say beyond the definitions.
use Rattle.std.specs.Prelude.{◌≡◌, ℕ, ◌+◌, ◌-◌, ◌*◌, ◌≤◌, ◌<◌, ◌^◌, true, List, ◌++◌, length, take, drop, MatchOption}
use Rattle.std.specs.Prelude as code
use Rattle.std.proofs.Math.Option.{Option, none, some}
use Rattle.text.specs.Utf8.{Scalar, decode}
use Rattle.text.specs.Class.{Profile}
use Rattle.text.specs.Cluster.{clusters}
use Rattle.text.specs.Utf8.Code.{run_of, whole}
use Rattle.text.specs.Printable.{all_printable}
use Rattle.text.specs.TextParts.{text_at, Measured}
use Rattle.text.specs.declared.BytePlace.{BytePlace}
use Rattle.text.specs.declared.TextPart.{TextPart}
use Rattle.drawing.specs.Clip.{spaces, clip_end}
use Rattle.drawing.specs.declared.clip.Clip.{Clip}
use Rattle.drawing.specs.declared.clip.Cut.{Cut}

-- the bytes of a text from a to e, and their scalars
abbrev pub bytes_in : List ℕ → ℕ → ℕ → List ℕ
bytes_in s a e = take (e - a) (drop a s)

abbrev pub text_in : List ℕ → ℕ → ℕ → List Scalar
text_in s a e = run_of (decode (bytes_in s a e))

-- a place of a text, and a column there: two columns a byte at most
pub record StartAt (s : List ℕ) (at from : ℕ) : Type 0 where
  pub inside : at ≤ length s
  pub small : from ≤ 2 * at

pub record FoundAt (s : List ℕ) (at from offset : ℕ) : Type 0 where
  pub there : StartAt s at from
  pub right : offset ≤ from

-- the clusters from a place and a column on, cut at the limit
pub record CutAt (P : Profile) (s : List ℕ) (at from limit : ℕ) (r : Cut) : Type 0 where
  pub same : clip_end P limit from (clusters P (text_at s at)) ≡ text_in s at r.end.0 ++ spaces r.after.0
  pub ordered : at ≤ r.end.0
  pub inside : r.end.0 ≤ length s
  pub valid : whole (bytes_in s at r.end.0)
  pub small : r.after.0 ≤ 2 * (length s - r.end.0)

-- what a clip leaves of a text
unfoldable pub clip_text : List ℕ → Clip → List Scalar
clip_text s r = spaces r.before.0 ++ (text_in s r.start.0 r.end.0 ++ spaces r.after.0)

-- the part is valid text, and the spaces are few
pub record ClipIn (s : List ℕ) (r : Clip) : Type 0 where
  pub ordered : r.start.0 ≤ r.end.0
  pub inside : r.end.0 ≤ length s
  pub valid : whole (bytes_in s r.start.0 r.end.0)
  pub before : r.before.0 ≤ 2 * r.start.0
  pub after : r.after.0 ≤ 2 * (length s - r.end.0)

-- its bytes can be counted
pub record ClipSmall (r : Clip) : Type 0 where
  pub ordered : r.start.0 ≤ r.end.0
  pub room : r.before.0 + (r.end.0 - r.start.0) + r.after.0 < 2 ^ 64

-- a part of a text, with no spaces beside it
abbrev pub part_of : BytePlace → BytePlace → Clip
part_of a e = record { before = record { 0 = 0 }; start = a; end = e; after = record { 0 = 0 } }

-- r is the clipped text x
pub record ClipIs (s : List ℕ) (x : Option (List Scalar)) (r : Clip) : Type 0 where
  pub fits : ClipIn s r
  pub same : x ≡ some (clip_text s r)

-- r is the clipped text x, or none where x is torn
abbrev pub Clipped : List ℕ → Option (List Scalar) → code.Option Clip → Type 0
Clipped s x r = MatchOption r (x ≡ none) (ClipIs s x)

-- a text that was measured, and numbers that fit
pub record Clipping (P : Profile) (s : List ℕ) (m : TextPart) (offset width : ℕ) : Type 0 where
  pub all : Measured P s 0 (text_at s 0) m
  pub room : offset + width < 2 ^ 64

-- printable bytes, and numbers that fit
pub record ColumnsClip (s : List ℕ) (offset width : ℕ) : Type 0 where
  pub printable : all_printable s ≡ true
  pub room : offset + width < 2 ^ 64
