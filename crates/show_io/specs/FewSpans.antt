-- What the contracts of src/few_spans.rt say.
use Rattle.std.specs.Prelude.{◌≡◌, List, ℕ}
use Rattle.text.specs.declared.Answer.{Answer}
use Rattle.spans.specs.Calls.{Read}
use Rattle.drawing.specs.Calls.{Drawn}
use Rattle.drawing.specs.Numbers.{read_of}

-- the answer of a call, and the converted line that it leaves
pub record ReadTo (c : Read) (a : Answer) (conv : List ℕ) : Type 0 where
  pub number : a.number ≡ c.number
  pub count : a.count ≡ c.count
  pub line : conv ≡ c.conv

-- and the change list
pub record DrawnTo (d : Drawn) (a : Answer) (conv list : List ℕ) : Type 0 where
  pub read : ReadTo (read_of d) a conv
  pub changes : list ≡ d.list
