-- The span list as plain numbers.
use Rattle.std.specs.Prelude.{◌≡◌, ℕ, ◌/◌, List, [], ◌∷◌, ◌++◌}
use Rattle.buffer.specs.Numbers.{smaller_of}
use Rattle.buffer.specs.Sink.{written_or_zero}
use Rattle.text.specs.declared.Answer.{Answer}
use Rattle.spans.specs.Spans.{Record}
use Rattle.spans.specs.Calls.{Read}
pub mod Laws

abbrev pub numbers_of : Record → List ℕ
numbers_of r = r.kind ∷ r.place.0 ∷ r.len ∷ r.matched ∷ []

unfoldable pub numbers_of_all : List Record → List ℕ
numbers_of_all [] = []
numbers_of_all (r ∷ rs) = numbers_of r ++ numbers_of_all rs

-- the places of a list of 2,048 that n numbers have room for
abbrev pub places_in : ℕ → ℕ
places_in n = smaller_of (n / 4) 2048

-- the answer is that of a call, and n numbers hold its records
pub record ReadNumbers (c : Read) (n : ℕ) (a : Answer) (conv numbers : List ℕ) : Type 0 where
  pub number : a.number ≡ c.number
  pub count : a.count ≡ c.count
  pub bytes : conv ≡ c.conv
  pub records : numbers ≡ written_or_zero n (numbers_of_all c.spans)
