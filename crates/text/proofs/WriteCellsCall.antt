-- The call `write_cells`: refusals, and what an accepted call leaves.
use Prim.Native.Nat.{◌-◌, ◌<◌, ◌≤◌, ℕ}
use native.Mathlib.Omega.{arith}
use mathlib.Core.Bool.{Bool, false, true}
use mathlib.Core.List.{List, ◌++◌}
use mathlib.Core.Path.{◌∙◌, ◌≡◌, ap₂, sym}
use lib.ListN.{drop, length, replicate, take}
use borrow.Author.Tests.{le-leb, lt-leb}
use Rattle.buffer.specs.Numbers.{smaller_of}
use Rattle.buffer.specs.Sink.Laws.{cleared_behind, fitted}
use Rattle.buffer.specs.Sink.{emit, sink}
use Rattle.text.specs.Calls.Code.{written}
use Rattle.text.specs.Calls.{counted, decide, lent, write_cells_call}
use Rattle.text.specs.Cells.{are_cells, overstruck_cells}

module _ (cells : List ℕ) (room : ℕ) (b : Bool) (e : b ≡ are_cells cells) where
  pub not_cells : b ≡ false → written (record { number = 16; count = 0 }) (replicate room 0) ≡ write_cells_call room cells
  unfolding write_cells_call decide lent counted
  not_cells f = rw (sym e ∙ f)

  module _ (n : ℕ) (c : n ≡ smaller_of (length (overstruck_cells cells)) 4097) (t : b ≡ true) where
    past : 4096 < n → 4096 < length (overstruck_cells cells)
    past h = omega arith

    exact : n ≤ 4096 → length (overstruck_cells cells) ≡ n
    exact h = omega arith

    pub too_long : 4096 < n → written (record { number = 1; count = 0 }) (replicate room 0) ≡ write_cells_call room cells
    unfolding write_cells_call decide lent counted
    too_long h = rw (sym e ∙ t, lt-leb (length (overstruck_cells cells)) 4096 (past h))

    pub too_short : n ≤ 4096 → room < n → written (record { number = 17; count = 0 }) (replicate room 0) ≡ write_cells_call room cells
    unfolding write_cells_call decide lent counted
    too_short h k = rw (sym e ∙ t, exact h, le-leb n 4096 h, lt-leb n room k)

    pub accepted : (l l₁ l₂ : List ℕ) (m : ℕ) → length l ≡ room → n ≤ 4096 → n ≤ room → sink l₁ m ≡ emit (sink l 0) (overstruck_cells cells) → l₂ ≡ take m l₁ ++ replicate (length l₁ - m) 0 → length l₁ ≡ room
        → written (record { number = 0; count = m }) l₂ ≡ write_cells_call room cells
    unfolding write_cells_call decide lent counted
    accepted l l₁ l₂ m g h k w q j =
        let x = exact h in
        let f = fitted l (overstruck_cells cells) l₁ m w (omega arith) in
        rw (sym e ∙ t, x, le-leb n 4096 h, le-leb n room k)
        (ap₂ (λ (i : ℕ) (o : List ℕ). written (record { number = 0; count = i }) o) (f.0 ∙ x) (q ∙ cleared_behind 0 l₁ (overstruck_cells cells) (drop (length (overstruck_cells cells)) l) room m f.1 (sym f.0) j))
