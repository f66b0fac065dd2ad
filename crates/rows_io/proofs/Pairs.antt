-- Pairs in a list of n numbers.
use mathlib.Core.Path.{◌≡◌, sym}
use Prim.Native.Nat.{ℕ, ◌*◌, ◌/◌, ◌≤◌, ◌<◌}
use native.Mathlib.Omega.{arith}
use Rattle.buffer.specs.Numbers.{smaller_of}
use Rattle.buffer.specs.Numbers.Laws.{smaller_first, smaller_second}

pub pairs_all : (n count : ℕ) → count ≤ n / 2 → 2 * count ≡ smaller_of (2 * count) n
pairs_all n count h = sym (smaller_first (2 * count) n (omega arith))

pub pairs_past : (n count : ℕ) → n / 2 < count → n ≡ smaller_of (2 * count) n
pairs_past n count h = sym (smaller_second (2 * count) n (omega arith))
