-- A list that is given as numbers: the size of the array that holds it and its element at first, how many places are lent where there are so many numbers, how many
-- numbers an element has, and what so many numbers hold of a list.
use Rattle.std.specs.Prelude.{ℕ, List, ◌≤◌, ◌*◌}

pub record Numbering (X : Type 0) : Type 0 where
  pub size : ℕ
  pub none : X
  pub places : ℕ → ℕ
  pub each : ℕ
  pub numbers : ℕ → List X → List ℕ
  pub few : (m : ℕ) → places m ≤ size
  pub wide : (m : ℕ) → each * places m ≤ m
