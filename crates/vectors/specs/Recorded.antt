-- What a case lends.
use Rattle.std.specs.Prelude.{ℕ, ◌≡◌, List, length}
use Rattle.io.specs.Counts.{IsPrefixLen}
use Rattle.buffer.specs.Numbers.{smaller_of}

-- the front of a buffer, of the size that is asked for or all of it
pub record Lent (size : ℕ) (buf : List ℕ) (r : ℕ) : Type 0 where
  pub exact : r ≡ smaller_of size (length buf)
  pub inside : IsPrefixLen r buf
