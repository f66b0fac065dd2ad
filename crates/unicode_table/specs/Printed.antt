-- What the program prints: what it hands to the system for standard output, in order.
use Rattle.std.specs.Prelude.{ℕ, ◌≤◌, ◌<◌, ◌≡◌, Bool, true, List, [], ◌∷◌, ◌++◌, length, get_or}
use Rattle.unicode_io.specs.Generator.{generated3, generated4}
use Rattle.unicode_table.specs.declared.Outcome.{Outcome}
pub mod Laws

-- the text is handed to the system from its front, all of it unless something that was handed is not taken
pub record Handed (text : List ℕ) (taken : Bool) : Type 0 where
  pub given : List ℕ
  pub rest : List ℕ
  pub whole : given ++ rest ≡ text
  pub all : taken ≡ true → rest ≡ []

-- the text for so many files; the program is not run for another number of them
unfoldable pub generated : List (List ℕ) → List ℕ
generated [] = []
generated (b ∷ []) = []
generated (b ∷ w ∷ []) = []
generated (b ∷ w ∷ e ∷ []) = generated3 b w e
generated (b ∷ w ∷ e ∷ d ∷ []) = generated4 b w e d
generated (b ∷ w ∷ e ∷ d ∷ x ∷ fs) = []

-- three files or four, and no cell is filled yet
pub record Begun (cells : List ℕ) (count : ℕ) : Type 0 where
  pub many : length cells ≡ 1114112
  pub zeros : (x : ℕ) → x < 1114112 → get_or cells x 0 ≡ 0
  pub least : 3 ≤ count
  pub most : count ≤ 4

-- the files' bytes, which the system has, and the text for them
pub record Printed (count : ℕ) (taken : Bool) : Type 0 where
  pub files : List (List ℕ)
  pub many : length files ≡ count
  pub handed : Handed (generated files) taken

pub record Made (count : ℕ) (r : Outcome) : Type 0 where
  pub where_read : r.read ≡ true → Printed count r.taken
