-- A part of a list, cut where the list ends.
use Rattle.std.specs.Prelude.{◌≡◌, refl, ◌⊎◌, ℕ, ◌+◌, ◌-◌, ◌≤◌, ◌<◌, List, [], length, take, drop}
use Rattle.std.proofs.Common.{sym, ap, ◌∙◌, inl, inr, ⊎_elim, arith, length-drop, drop_of_length-le, take_all}
use Rattle.std.proofs.Math.Seq.{take-nil}
use Rattle.buffer.specs.Numbers.{smaller_of}
use Rattle.buffer.specs.Numbers.Laws.{smaller_is, smaller_left, smaller_right}

pub take_smaller : {A : Type 0} (s : List A) (n k : ℕ) → k ≡ smaller_of n (length s) → take k s ≡ take n s
take_smaller s n k is = ⊎_elim
    (λ (p : (n ≤ length s) × (k ≡ n)). ap (λ (m : ℕ). take m s) p.1)
    (λ (p : (length s < n) × (k ≡ length s)). take_all k s (omega arith) ∙ sym (take_all n s (omega arith)))
    (smaller_is n (length s) k is)

module _ {A : Type 0} (s : List A) (at from : ℕ) (is : from ≡ smaller_of at (length s)) where
  -- as many, or in both all that is left
  same_part : (k n : ℕ) → (k ≡ n) ⊎ ((length s ≤ from + k) × (length s ≤ at + n)) → take k (drop from s) ≡ take n (drop at s)
  same_part k n h = ⊎_elim
      (λ (p : (at ≤ length s) × (from ≡ at)). rw p.1 (⊎_elim (λ (e : k ≡ n). rw e refl) (λ (q : (length s ≤ from + k) × (length s ≤ at + n)). all k (omega arith) ∙ sym (all n (omega arith))) h))
      (λ (p : (length s < at) × (from ≡ length s)). past k from (omega arith) ∙ sym (past n at (omega arith)))
      (smaller_is at (length s) from is)
    where
      all : (m : ℕ) → length s ≤ at + m → take m (drop at s) ≡ drop at s
      all m g = take_all m (drop at s) (rw length-drop (omega arith))

      past : (m p : ℕ) → length s ≤ p → take m (drop p s) ≡ []
      past m p g = rw (drop_of_length-le s g) (take-nil {A = A} m)

  -- by its end
  pub part_cut : (n to : ℕ) → to ≡ smaller_of (at + n) (length s) → take (to - from) (drop from s) ≡ take n (drop at s)
  part_cut n to e =
      let b = smaller_left at (length s) from is in
      same_part (to - from) n (⊎_elim
      (λ (p : (at + n ≤ length s) × (to ≡ at + n)). ⊎_elim (λ (q : (at ≤ length s) × (from ≡ at)). inl (omega arith)) (λ (q : (length s < at) × (from ≡ length s)). absurd (omega arith)) (smaller_is at (length s) from is))
      (λ (p : (length s < at + n) × (to ≡ length s)). inr (omega arith, omega arith))
      (smaller_is (at + n) (length s) to e))

  -- by its length
  module _ (n len : ℕ) (cut : len ≡ smaller_of n (length s - from)) where
    pub part_within : from + len ≤ length s
    part_within = omega (arith, smaller_right at (length s) from is, smaller_right n (length s - from) len cut)

    -- a place in memory
    pub part_fits : length s < 18446744073709551616 → from + len < 18446744073709551616
    part_fits h = omega (arith, part_within)

    pub part_is : take (from + len - from) (drop from s) ≡ take n (drop at s)
    part_is =
        let b = smaller_left at (length s) from is in
        same_part (from + len - from) n (⊎_elim
        (λ (p : (n ≤ length s - from) × (len ≡ n)). inl (omega arith))
        (λ (p : (length s - from < n) × (len ≡ length s - from)). inr (omega arith, omega arith))
        (smaller_is n (length s - from) len cut))
