-- What the contracts of src/file.rt say.
use Rattle.std.specs.Prelude.{ℕ, Bool, List, ◌≡◌, length}
use Rattle.show_io.specs.declared.lines.View.{View}
use Rattle.show_io.specs.Input.{pieces}
use Rattle.show_io.specs.Input.Contracts.{state_of}
use Rattle.show_io.specs.declared.input.Reading.{Reading}
use Rattle.show.specs.Parts.{Shown, shown, Given, in_turns, with_part, with_parts}
use Rattle.show.specs.declared.file.Reach.{Reach}

-- whether the system took it is its own answer: the libraries' contracts say nothing of what is written
pub record Taken (r : Bool) : Type 0 where
  pub answer : Bool
  pub says : r ≡ answer

abbrev pub written : Reading → Bool → Reach
written r took = record { reading = record { number = r.number; kept = r.kept; at = 0 }; on = took }

pub record Written (reading : Reading) (r : Reach) : Type 0 where
  pub answer : Bool
  pub says : r ≡ written reading answer

-- what was read, with what was handed over meanwhile
abbrev pub shown_of : Reach → List ℕ → List ℕ → List ℕ → Shown
shown_of r line out handed = shown (state_of r.reading line out) handed r.on

-- nothing is read yet
abbrev pub start : Reading
start = record { number = 0; kept = 0; at = 0 }

module _ (name : List ℕ) (view : View) (line₀ out₀ line out : List ℕ) where
  -- a part in turns, as many as no part uses up
  pub record InTurns (before : Reading) (part : List ℕ) (r : Reach) : Type 0 where
    pub taken : List Bool
    pub many : length taken ≡ length part
    pub handed : List ℕ
    pub shows : shown_of r line out handed ≡ in_turns name view (length line₀) taken (state_of before line₀ out₀) (pieces part)

  -- one part more
  pub record PartShown (before : Reading) (part : List ℕ) (r : Reach) : Type 0 where
    pub taken : List Bool
    pub many : length taken ≡ length part
    pub handed : List ℕ
    pub shows : shown_of r line out handed ≡ with_part name view (length line₀) (state_of before line₀ out₀) (record { part = part; taken = taken; many = many })

  -- the part that the system gives
  pub record MoreShown (before : Reading) (r : Reach) : Type 0 where
    pub given : Given
    pub handed : List ℕ
    pub shows : shown_of r line out handed ≡ with_part name view (length line₀) (state_of before line₀ out₀) given

  -- all that it gives, of as many as no run uses up
  pub record AllShown (r : Reading) : Type 0 where
    pub given : List Given
    pub many : length given ≡ 18446744073709551615
    pub handed : List ℕ
    pub on : Bool
    pub shows : shown (state_of r line out) handed on ≡ with_parts name view (length line₀) (state_of start line₀ out₀) given
