-- The ends of the functions that move the cursor or refuse.
use mathlib.Core.Path.{◌≡◌, refl, ap, ◌∙◌}
use Prim.Native.Nat.{max, ℕ, ◌+◌, ◌-◌, ◌<◌, ◌≤◌}
use native.Mathlib.Omega.{arith}
use mathlib.Core.Bool.{cond}
use lib.Dec.{ltb}
use borrow.Author.Tests.{lt-ltb, le-ltb}
use Rattle.text.specs.Tests.{cases}
use borrow.Author.Tests.{ltb-true, ltb-false}
use Rattle.screen.specs.Screen.{with_at, with_end, larger_of, cursor_of}
use Rattle.screen.specs.declared.screen.Screen.{Screen}

module _ (width : ℕ) (t : Screen) where
  module _ (c : ℕ) (r : Screen) (is : c ≡ cursor_of width t.at) where
    pub back_one : (d : ℕ) → d ≡ c - 1 → r ≡ with_at t d → r ≡ with_at t (cursor_of width t.at - 1)
    back_one d k e = e ∙ ap (with_at t) k ∙ ap (λ (n : ℕ). with_at t (n - 1)) is

  pub right_one : (r : Screen) → t.at + 1 < width → r ≡ with_at t (t.at + 1) → r ≡ with_at t (cond (ltb (t.at + 1) width) (t.at + 1) t.at)
  right_one r h e = e ∙ ap (with_at t) (rw (lt-ltb (t.at + 1) width h) refl)

  pub right_none : width ≤ t.at + 1 → t ≡ with_at t (cond (ltb (t.at + 1) width) (t.at + 1) t.at)
  right_none h = ap (with_at t) (rw (le-ltb (t.at + 1) width h) refl)

  pub right_past : width ≤ t.at → t ≡ with_at t (cond (ltb (t.at + 1) width) (t.at + 1) t.at)
  right_past h = right_none (omega arith)

pub behind_is : (t : Screen) (to m : ℕ) → m ≡ max t.end to → with_end (with_at t to) m ≡ with_end (with_at t to) (larger_of t.end to)
behind_is t to m k = ap (with_end (with_at t to)) (cases (ltb t.end to)
    (λ e. let h = ltb-true t.end to e in rw e (omega arith))
    (λ e. let h = ltb-false t.end to e in rw e (omega arith)))
