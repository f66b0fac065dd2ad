-- The bytes of cells one after the other.
use Rattle.std.specs.Prelude.{◌≡◌, refl, ℕ, List, [], ◌∷◌, ◌++◌, length}
use Rattle.std.proofs.Common.{sym, ap, ◌∙◌, append_assoc}
use Rattle.buffer.specs.Numbers.{le4}
use Rattle.screen.specs.Row.{Cell, row_bytes}
use Rattle.screen.specs.Output.{cell_bytes}

pub row_nil : row_bytes [] ≡ []
unfolding row_bytes
row_nil = refl

pub row_cons : (c : Cell) (cs : List Cell) → row_bytes (c ∷ cs) ≡ cell_bytes c ++ row_bytes cs
unfolding row_bytes
row_cons c cs =
    let l : List ℕ = le4 (length c.cluster) in
    sym (append_assoc l (c.cluster ++ c.body) (row_bytes cs) ∙ ap (λ (s : List ℕ). l ++ s) (append_assoc c.cluster c.body (row_bytes cs)))

pub row_append : (a b : List Cell) → row_bytes (a ++ b) ≡ row_bytes a ++ row_bytes b
row_append [] b = ap (λ (s : List ℕ). s ++ row_bytes b) (sym row_nil)
row_append (c ∷ a) b =
    row_cons c (a ++ b) ∙ ap (λ (s : List ℕ). cell_bytes c ++ s) (row_append a b) ∙ sym (append_assoc (cell_bytes c) (row_bytes a) (row_bytes b)) ∙ ap (λ (s : List ℕ). s ++ row_bytes b) (sym (row_cons c a))
