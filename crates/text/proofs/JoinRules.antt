-- The rules of src/rules.rt, by the class of the next scalar.
use Rattle.std.specs.Prelude.{◌≡◌, ◌⊎◌, ℕ, ◌≤◌, Bool, true, false, not, ◌||◌, eqb, refl}
use Rattle.std.proofs.Common.{arith, ⊎_elim}
use borrow.Author.Tests.{ne_eqb}
use Rattle.text.specs.Class.Code.{class_number}
use Rattle.text.specs.Cluster.{joined}
use Rattle.text.specs.Rules.{before_number, state_context}
use Rattle.text.specs.declared.class.Class as code
use Rattle.text.specs.declared.class.Class.TheVariants as class
use Rattle.text.specs.declared.rules.Before.{Before}
use Rattle.text.specs.declared.rules.Before.TheVariants.{Scalar, PictographZwj}
use Rattle.text.proofs.Classes.{class_small}
use Rattle.text.proofs.ForwardWalk.{continues, rule_is}

pub before_small : (b : Before) → before_number b ≤ 15
before_small (Scalar c) = omega (arith, class_small c)
before_small PictographZwj = omega arith

not_zwj : (b : Before) → (b ≡ PictographZwj → ⊥) → eqb (before_number b) 15 ≡ false
not_zwj (Scalar c) n = ne_eqb (class_number c) 15 (λ z. omega (arith, class_small c, z))
not_zwj PictographZwj n = absurd (n refl)

module _ (b : Before) (c : code.Class) where
  rule : (r : Bool) → r ≡ continues (before_number b) (class_number c) → r ≡ joined (before_number b) (state_context (before_number b)) (class_number c)
  rule r e = rule_is (before_number b) (class_number c) r (before_small b) (class_small c) e

  abbrev p : ℕ
  p = before_number b

  -- Other, Cr or Control
  pub in_other : (c ≡ class.Other) ⊎ ((c ≡ class.Cr) ⊎ (c ≡ class.Control)) → false ≡ joined p (state_context p) (class_number c)
  unfolding continues
  in_other h = rule false (⊎_elim (λ i. rw i refl) (λ g. ⊎_elim (λ i. rw i refl) (λ i. rw i refl) g) h)

  module _ (r : Bool) where
    pub in_extend : r ≡ not ((eqb p 2 || eqb p 0) || eqb p 1) → (c ≡ class.Extend) ⊎ (c ≡ class.Zwj) → r ≡ joined p (state_context p) (class_number c)
    unfolding continues
    in_extend e h = rule r (⊎_elim (λ i. rw i e) (λ i. rw i e) h)

    pub in_l : r ≡ eqb p 5 → (c ≡ class.L) ⊎ ((c ≡ class.Lv) ⊎ (c ≡ class.Lvt)) → r ≡ joined p (state_context p) (class_number c)
    unfolding continues
    in_l e h = rule r (⊎_elim (λ i. rw i e) (λ g. ⊎_elim (λ i. rw i e) (λ i. rw i e) g) h)

    pub in_v : r ≡ (eqb p 5 || eqb p 8) || eqb p 6 → c ≡ class.V → r ≡ joined p (state_context p) (class_number c)
    unfolding continues
    in_v e i = rule r (rw i e)

    pub in_t : r ≡ ((eqb p 8 || eqb p 6) || eqb p 9) || eqb p 7 → c ≡ class.T → r ≡ joined p (state_context p) (class_number c)
    unfolding continues
    in_t e i = rule r (rw i e)

    pub in_indicator : r ≡ eqb p 10 → c ≡ class.RegionalIndicator → r ≡ joined p (state_context p) (class_number c)
    unfolding continues
    in_indicator e i = rule r (rw i e)

    pub in_lf : r ≡ eqb p 0 → c ≡ class.Lf → r ≡ joined p (state_context p) (class_number c)
    unfolding continues
    in_lf e i = rule r (rw i e)

  pub picture_after_zwj : b ≡ PictographZwj → c ≡ class.ExtendedPictographic → true ≡ joined p (state_context p) (class_number c)
  unfolding continues
  picture_after_zwj e i = rule true (rw (e, i) refl)

  pub picture_alone : (b ≡ PictographZwj → ⊥) → c ≡ class.ExtendedPictographic → false ≡ joined p (state_context p) (class_number c)
  unfolding continues
  picture_alone n i = rule false (rw (i, not_zwj b n) refl)
