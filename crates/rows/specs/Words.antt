-- Words: src/line.rs, SplitWords. A text is words, each with the whitespace behind it; a `-` ends a word.
use Rattle.std.specs.Prelude.{cond, List, [], ◌∷◌, eqb}
use Rattle.text.specs.Utf8.{Scalar}
use Rattle.text.specs.Class.{whitespace}
pub mod Laws
pub mod Contracts

pub record Word : Type 0 where
  pub word : List Scalar
  pub sep : List Scalar

abbrev pub a_word : List Scalar → List Scalar → Word
a_word w s = record { word = w; sep = s }

-- whitespace before the words that follow it: more of the whitespace that they begin with, or a separator of its own
unfoldable pub join_space : Scalar → List Scalar → Word → List Word → List Word
join_space c [] v vs = a_word [] (c ∷ v.sep) ∷ vs
join_space c (d ∷ w) v vs = a_word [] (c ∷ []) ∷ v ∷ vs

unfoldable pub add_space : Scalar → List Word → List Word
unfolding join_space
add_space c [] = a_word [] (c ∷ []) ∷ []
add_space c (v ∷ vs) = join_space c v.word v vs

unfoldable pub add_letter : Scalar → List Word → List Word
add_letter c [] = a_word (c ∷ []) [] ∷ []
add_letter c (v ∷ vs) = a_word (c ∷ v.word) v.sep ∷ vs

unfoldable pub words : List Scalar → List Word
unfolding add_space add_letter whitespace
words [] = []
words (c ∷ s) =
    let vs : List Word = words s in
    cond (whitespace c.code) (add_space c vs) (cond (eqb c.code 0x2D) (a_word (c ∷ []) [] ∷ vs) (add_letter c vs))
