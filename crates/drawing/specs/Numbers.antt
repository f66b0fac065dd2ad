-- The drawings with a span list of their own, for programs.
use Rattle.std.specs.Prelude.{◌≡◌, ℕ, List}
use Rattle.text.specs.declared.Answer.{Answer}
use Rattle.spans.specs.Calls.{Read}
use Rattle.spans.specs.Numbers.{ReadNumbers}
use Rattle.drawing.specs.Calls.{Drawn}

-- what a drawing leaves besides the change list
abbrev pub read_of : Drawn → Read
read_of c = record { number = c.number; count = c.count; conv = c.conv; spans = c.spans }

-- the answer is that of a call, n numbers hold its records, and the change list its changes
pub record DrawnNumbers (c : Drawn) (n : ℕ) (a : Answer) (conv numbers list : List ℕ) : Type 0 where
  pub read : ReadNumbers (read_of c) n a conv numbers
  pub changes : list ≡ c.list
