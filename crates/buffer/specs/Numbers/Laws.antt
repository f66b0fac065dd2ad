-- The smaller of two numbers is one of them and at most each; 4 bytes of a number.
use Rattle.std.specs.Prelude.{ℕ, zero, suc, ◌≤◌, ◌<◌, ◌⊎◌, ◌≡◌, refl, length}
use Rattle.std.proofs.Common.{arith, inl, inr, ⊎_elim}
use Rattle.buffer.specs.Numbers.{smaller_of, le4}

pub le_or_lt : (a b : ℕ) → (a ≤ b) ⊎ (b < a)
le_or_lt zero b = inl (omega arith)
le_or_lt (suc a) zero = inr (omega arith)
le_or_lt (suc a) (suc b) = ⊎_elim (λ (p : a ≤ b). inl (omega arith)) (λ (q : b < a). inr (omega arith)) (le_or_lt a b)

module _ (a b r : ℕ) (e : r ≡ smaller_of a b) where
  pub smaller_is : ((a ≤ b) × (r ≡ a)) ⊎ ((b < a) × (r ≡ b))
  smaller_is = ⊎_elim (λ (p : a ≤ b). inl (p, omega arith)) (λ (p : b < a). inr (p, omega arith)) (le_or_lt a b)

  pub smaller_left : r ≤ a
  smaller_left = omega arith

  pub smaller_right : r ≤ b
  smaller_right = omega arith

  -- it is no greater for a lesser number
  pub smaller_order : (d t : ℕ) → a ≤ d → t ≡ smaller_of d b → r ≤ t
  smaller_order d t h f = omega arith

-- where it is known which
pub smaller_first : (a b : ℕ) → a ≤ b → smaller_of a b ≡ a
smaller_first a b h = omega arith

pub smaller_second : (a b : ℕ) → b ≤ a → smaller_of a b ≡ b
smaller_second a b h = omega arith

pub le4_length : (n : ℕ) → length (le4 n) ≡ 4
unfolding le4
le4_length n = refl
