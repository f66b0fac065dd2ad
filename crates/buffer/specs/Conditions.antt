-- What a return of branching code is shown by: a chain of `cond` in the code's order.
use Rattle.std.specs.Prelude.{ℕ, ◌≡◌, Bool, true, false, cond, eqb}
use Rattle.std.proofs.Common.{sym, ◌∙◌, lt-ltb, le-ltb, le-leb, eq-eqb, ne_eqb}
use Rattle.std.proofs.lemmas.Bool.{lt-leb}

pub on_true : {A : Type 0} (b : Bool) (x y z : A) → b ≡ true → z ≡ x → z ≡ cond b x y
on_true b x y z p q = rw p q

pub on_false : {A : Type 0} (b : Bool) (x y z : A) → b ≡ false → z ≡ y → z ≡ cond b x y
on_false b x y z p q = rw p q

-- a test that a function made: its result is what it ensures, and the branch says which it was
pub met : {t v r : Bool} → r ≡ t → r ≡ v → t ≡ v
met e h = sym e ∙ h

-- the same of a number that a function gave
pub eq_met : (t k r : ℕ) → r ≡ t → r ≡ k → eqb t k ≡ true
eq_met t k r e h = eq-eqb t k (sym e ∙ h)

pub ne_met : (t k r : ℕ) → r ≡ t → (r ≡ k → ⊥) → eqb t k ≡ false
ne_met t k r e h = ne_eqb t k (λ q. h (e ∙ q))

pub ruleset branch = (on_false, on_true, met, eq_met, ne_met, lt-ltb, le-ltb, le-leb, lt-leb, eq-eqb, ne_eqb)
