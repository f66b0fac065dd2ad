-- What the contracts of src/span_text.rt say: the span list as plain numbers.
use Rattle.std.specs.Prelude.{ℕ, List, [], ◌∷◌, ◌++◌}
use Rattle.show_io.specs.SpanText.{span_text}

-- four numbers a span
unfoldable pub numbers_text : (number : ℕ) (conv : List ℕ) → List ℕ → List ℕ
unfolding span_text
numbers_text number conv [] = []
numbers_text number conv (k ∷ []) = []
numbers_text number conv (k ∷ p ∷ []) = []
numbers_text number conv (k ∷ p ∷ n ∷ []) = []
numbers_text number conv (k ∷ p ∷ n ∷ m ∷ ns) = span_text number conv k p n ++ numbers_text number conv ns
