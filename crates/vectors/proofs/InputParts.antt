-- The parts of an input.
use mathlib.Core.Path.{◌≡◌, refl}
use Prim.Native.Nat.{ℕ, suc, ◌+◌, ◌-◌, ◌≤◌, ◌<◌}
use native.Mathlib.Numerals.{add-one}
use native.Mathlib.Omega.{arith}
use Rattle.buffer.specs.Sink.{Sink, put, emit}
use Rattle.buffer.specs.Numbers.{smaller_of}
use Rattle.vectors.specs.Program.{part_of, input_len}
use Rattle.buffer.specs.Numbers.Laws.{smaller_right}

module _ (f : ℕ → ℕ) (k : Sink ℕ) (i end : ℕ) {e : Sink ℕ} (p : emit k (part_of f i (end - i)) ≡ e) where
  pub part_turn : (k' : Sink ℕ) (b : ℕ) → i < end → b ≡ f i → k' ≡ put k b → emit k' (part_of f (i + 1) (end - (i + 1))) ≡ e
  unfolding part_of emit
  part_turn k' b h q r =
      let m : end - i ≡ suc (end - (i + 1)) = omega arith in
      rw (r, q, add-one) (rw (m, add-one) at p)

  pub part_end : end ≤ i → k ≡ e
  unfolding part_of emit
  part_end h = let z : end - i ≡ 0 = omega arith in rw z at p

pub input_bound : (prefix times suffix r : ℕ) → r ≡ input_len prefix times suffix → r ≤ 10000128
input_bound prefix times suffix r e = omega (arith, smaller_right prefix 64 (smaller_of prefix 64) refl, smaller_right times 10000000 (smaller_of times 10000000) refl, smaller_right suffix 64 (smaller_of suffix 64) refl)
