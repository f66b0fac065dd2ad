-- The orders that parameters give: of a known parameter and of a colour group; and what all of them pass.
use Rattle.std.specs.Prelude.{◌≡◌, ℕ, ◌-◌, ◌≤◌, Bool, ◌&&◌, T, eqb, leb}
use Rattle.std.proofs.Math.Path.{refl}
use Rattle.std.proofs.Math.Bool.{true}
use mathlib.Core.List.{List, [], ◌∷◌}
use borrow.Author.Tests.{le-leb}
use Rattle.text.specs.Tests.{and_T, both}
use Rattle.text.specs.Each.{All, all_nil, all_cons}
use Rattle.text.specs.Utf8.{to, within}
use Rattle.spans.specs.Sgr.{Known, known, meaning_of, coloured, meaning_after, follow, orders_from, orders}
use Rattle.spans.specs.declared.sgr.Color.{Color}
use Rattle.spans.specs.declared.sgr.Color.TheVariants.{Palette, Rgb}
use Rattle.spans.specs.declared.sgr.Sgr.{Sgr}
use Rattle.spans.specs.declared.sgr.Sgr.TheVariants.{Foreground, Background, UnderlineColor}
use Rattle.spans.specs.declared.sgr.Target.{Target}
use Rattle.spans.specs.declared.sgr.Target.TheVariants as target
use Rattle.spans.specs.declared.sgr.ColorState.{ColorState}
use Rattle.spans.specs.declared.sgr.ColorState.TheVariants.{Ready, WantKind, WantIndex, WantRed, WantGreen, WantBlue}
use Rattle.spans.specs.declared.sgr.Meaning.{Meaning}
use Rattle.spans.specs.declared.sgr.Meaning.TheVariants.{Order, Group, Unknown}

-- ---- one after the other

module _ (p : ℕ) (ps : List ℕ) where
  pub orders_order : {o : Sgr} → meaning_of known p ≡ Order o → orders (p ∷ ps) ≡ o ∷ orders ps
  unfolding orders orders_from
  orders_order e = rw e refl

  module _ {t : Target} (e : meaning_of known p ≡ Group (WantKind t)) where
    -- p ; 5 ; index
    pub orders_index : {i : ℕ} → i ≤ 255 → orders (p ∷ 5 ∷ i ∷ ps) ≡ coloured t (Palette i) ∷ orders ps
    unfolding orders orders_from
    orders_index {i} h = rw (e, le-leb i 255 h) refl

    -- p ; 2 ; red ; green ; blue
    pub orders_rgb : {r g b : ℕ} → r ≤ 255 → g ≤ 255 → b ≤ 255 → orders (p ∷ 2 ∷ r ∷ g ∷ b ∷ ps) ≡ coloured t (Rgb r g b) ∷ orders ps
    unfolding orders orders_from
    orders_rgb {r} {g} {b} h k l = rw (e, le-leb r 255 h, le-leb g 255 k, le-leb b 255 l) refl

-- ---- a test that the orders of the known parameters and of colours pass, all orders pass

module _ (q : Sgr → Bool) where
  abbrev Pass : Sgr → Type 0
  Pass o = T (q o)

  unfoldable passes : Meaning → Bool
  passes (Order o) = q o
  passes (Group w) = true
  passes Unknown = true

  abbrev Passes : Meaning → Type 0
  Passes x = T (passes x)

  -- what the parameters k above their ranges' lows say
  unfoldable rows_pass : ℕ → List Known → Bool
  unfolding passes
  rows_pass k [] = true
  rows_pass k (r ∷ rs) = passes (r.says k) && rows_pass k rs

  unfoldable pub known_pass : ℕ → Bool
  unfolding rows_pass known
  known_pass k = rows_pass k known

  rows_pass_law : (rs : List Known) (p : ℕ) → ((k : ℕ) → T (rows_pass k rs)) → Passes (meaning_of rs p)
  unfolding meaning_of rows_pass
  rows_pass_law [] p t = tt
  rows_pass_law (r ∷ rs) p t =
      both Passes (within (to r.low r.high) p) (and_T (passes (r.says (p - r.low))) (rows_pass (p - r.low) rs) (t (p - r.low))).0 (rows_pass_law rs p (λ k. (and_T (passes (r.says k)) (rows_pass k rs) (t k)).1))

  module _ (own : (k : ℕ) → T (known_pass k)) (foreground : (c : Color) → Pass (Foreground c)) (background : (c : Color) → Pass (Background c)) (underline : (c : Color) → Pass (UnderlineColor c)) where
    coloured_pass : (t : Target) (c : Color) → Pass (coloured t c)
    unfolding coloured
    coloured_pass target.Foreground c = foreground c
    coloured_pass target.Background c = background c
    coloured_pass target.Underline c = underline c

    after_pass : (w : ColorState) (p : ℕ) → Passes (meaning_after w p)
    unfolding meaning_after passes known_pass
    after_pass Ready p = rows_pass_law known p own
    after_pass (WantKind t) p = both Passes (eqb p 5) tt (both Passes (eqb p 2) tt tt)
    after_pass (WantIndex t) p = both Passes (leb p 255) (coloured_pass t _) tt
    after_pass (WantRed t) p = both Passes (leb p 255) tt tt
    after_pass (WantGreen t r) p = both Passes (leb p 255) tt tt
    after_pass (WantBlue t r g) p = both Passes (leb p 255) (coloured_pass t _) tt

    follow_pass : (x : Meaning) (go : ColorState → List Sgr) → Passes x → ((w : ColorState) → All Pass (go w)) → All Pass (follow x go)
    unfolding follow passes
    follow_pass (Order o) go t a = all_cons t (a Ready)
    follow_pass (Group w) go t a = a w
    follow_pass Unknown go t a = all_nil

    from_pass : (ps : List ℕ) (w : ColorState) → All Pass (orders_from w ps)
    unfolding orders_from
    from_pass [] w = all_nil
    from_pass (p ∷ ps) w = follow_pass (meaning_after w p) (λ w. orders_from w ps) (after_pass w p) (λ w. from_pass ps w)

    pub orders_pass : (ps : List ℕ) → All Pass (orders ps)
    unfolding orders
    orders_pass ps = from_pass ps Ready
