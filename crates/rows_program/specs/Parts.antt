-- Standard input in the parts that the system hands over when it is asked for 4,096 bytes: a part that has fewer is the last.
use Rattle.std.specs.Prelude.{ℕ, cond, List, [], ◌∷◌, ◌≡◌, length, ltb}
use Rattle.rows_io.specs.Input.{InputState, state_of, start, with_part}
use Rattle.rows_io.specs.declared.input.Input.{Input}
use Rattle.rows_program.specs.declared.input.Reading.{Reading}
pub mod Laws

-- the parts are asked for one by one, while more is wanted and the last was not met
unfoldable pub asked : InputState → List (List ℕ) → InputState
asked h [] = h
asked h (p ∷ ps) =
    let next : InputState = with_part h p in
    let further : InputState = asked next ps in
    cond h.input.more (cond (ltb (length p) 4096) next further) h

-- one part more
pub record PartRead (before : List ℕ) (state : Input) (after : List ℕ) (r : Reading) : Type 0 where
  pub part : List ℕ
  pub read : state_of r.input after ≡ with_part (state_of state before) part
  pub ended : r.ended ≡ ltb (length part) 4096

-- all that are asked for, of as many as no run uses up
pub record PartsRead (before after : List ℕ) (r : Input) : Type 0 where
  pub parts : List (List ℕ)
  pub many : length parts ≡ 18446744073709551615
  pub read : state_of r after ≡ asked (state_of start before) parts
