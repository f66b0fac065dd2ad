-- The files that the arguments name, in the parts that the system hands over.
use Rattle.std.specs.Prelude.{ℕ, suc, ◌≡◌, ◌<◌, false, List, [], ◌∷◌, ◌++◌, length, ltb, Option, MatchOption}
use Rattle.unicode_io.specs.Line.{empty}
use Rattle.unicode_io.specs.Reading.{State, state_of, reading, bytes_read, file_ended}
use Rattle.unicode_io.specs.declared.reading.Reading.{Reading}
pub mod Laws

-- a file's bytes, from the parts that the system hands over one by one: an empty part says that the file has ended
unfoldable pub bytes_of : List (List ℕ) → List ℕ
bytes_of [] = []
bytes_of ([] ∷ ps) = []
bytes_of ((b ∷ p) ∷ ps) = (b ∷ p) ++ bytes_of ps

-- a part with bytes
pub record BytesRead (file : ℕ) (before : Reading) (cells after : List ℕ) (r : Reading) : Type 0 where
  pub part : List ℕ
  pub some : 0 < length part
  pub read : state_of r after ≡ bytes_read file (state_of before cells) part

-- one part more; none where it is empty
abbrev pub PartRead : (file : ℕ) (before : Reading) (cells after : List ℕ) → Option Reading → Type 0
PartRead file before cells after r = MatchOption r (after ≡ cells) (λ q. BytesRead file before cells after q)

-- all parts that are asked for, of as many as no run uses up
pub record PartsRead (file : ℕ) (before : Reading) (cells after : List ℕ) (r : Reading) : Type 0 where
  pub parts : List (List ℕ)
  pub many : length parts ≡ 18446744073709551615
  pub read : state_of r after ≡ bytes_read file (state_of before cells) (bytes_of parts)

-- a file to its end
pub record Whole (file : ℕ) (before : Reading) (cells after : List ℕ) (r : Reading) : Type 0 where
  pub parts : List (List ℕ)
  pub many : length parts ≡ 18446744073709551615
  pub read : state_of r after ≡ file_ended file (bytes_read file (state_of before cells) (bytes_of parts))

-- files one after the other, numbered from k on
unfoldable pub files_read : ℕ → State → List (List ℕ) → State
files_read k s [] = s
files_read k s (f ∷ fs) = files_read (suc k) (file_ended k (bytes_read k s f)) fs

pub record Files (count : ℕ) (cells after : List ℕ) (r : Reading) : Type 0 where
  pub files : List (List ℕ)
  pub many : length files ≡ count
  pub read : state_of r after ≡ files_read 0 (state_of (reading empty false false) cells) files
