-- The first piece of a part is its first line, and the others are those of what stands behind it.
use Rattle.std.specs.Prelude.{◌≡◌, refl, ℕ, ◌≤◌, ◌<◌, List, [], ◌∷◌, length, take, drop, eqb}
use Rattle.std.proofs.Common.{ap, arith}
use Rattle.text.specs.Tests.{cases}
use Rattle.show_io.specs.Input.{line_length, join_first, pieces}

pub length_within : (s : List ℕ) → line_length s ≤ length s
unfolding line_length
length_within [] = omega arith
length_within (b ∷ s) = cases (eqb b 0x0A) (λ e. rw e (omega arith)) (λ e. rw e (let h = length_within s in omega arith))

pub length_some : (s : List ℕ) → 0 < length s → 0 < line_length s
unfolding line_length
length_some [] h = h
length_some (b ∷ s) h = cases (eqb b 0x0A) (λ e. rw e (omega arith)) (λ e. rw e (omega arith))

pub pieces_first : (s : List ℕ) → 0 < length s → pieces s ≡ take (line_length s) s ∷ pieces (drop (line_length s) s)
unfolding line_length pieces
pieces_first [] h = absurd (let z : 0 < 0 = h in omega arith)
pieces_first (b ∷ []) h = cases (eqb b 0x0A) (λ e. rw e refl) (λ e. rw e refl)
pieces_first (b ∷ c ∷ s) h = cases (eqb b 0x0A) (λ e. rw e refl) (λ e. rw e (ap (join_first b) (pieces_first (c ∷ s) (omega arith))))

pub pieces_none : pieces [] ≡ []
unfolding pieces
pieces_none = refl
