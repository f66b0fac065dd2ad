-- Bool tests and comparisons, taken apart.
use Rattle.std.specs.Prelude.{◌≡◌, ℕ, zero, suc, ◌<◌, ◌≤◌, Bool, true, false, ◌&&◌, ◌⊎◌, refl}
use Rattle.std.proofs.Common.{inl, inr, ⊎_elim, arith}

pub never : false ≡ true → ⊥
never e = let y : ◌≡◌ {A = ℕ} 0 1 = cc in omega arith

pub and_left : (s t : Bool) → s && t ≡ true → s ≡ true
and_left true t q = refl
and_left false t q = q

pub and_right : (s t : Bool) → s && t ≡ true → t ≡ true
and_right true t q = q
and_right false t q = absurd (never q)

pub and_both : (s t : Bool) → s && t ≡ true → (s ≡ true) × (t ≡ true)
and_both s t q = (and_left s t q, and_right s t q)

pub le_or_lt : (a b : ℕ) → (a ≤ b) ⊎ (b < a)
le_or_lt zero b = inl (omega arith)
le_or_lt (suc a) zero = inr (omega arith)
le_or_lt (suc a) (suc b) = ⊎_elim (λ (p : a ≤ b). inl (omega arith)) (λ (q : b < a). inr (omega arith)) (le_or_lt a b)
