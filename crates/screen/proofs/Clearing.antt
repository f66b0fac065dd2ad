-- Kind 3: the row's numbers up to the cursor, blank from there on.
use mathlib.Core.Path.{◌≡◌, ap, ap₂, ◌∙◌}
use Prim.Native.Nat.{ℕ, ◌-◌, ◌*◌, ◌≤◌}
use native.Mathlib.Omega.{arith}
use mathlib.Core.Bool.{not}
use mathlib.Core.List.{List}
use lib.ListN.{length, replicate, length-replicate}
use lib.Seq.{length-sets}
use lib.Dec.{eqb}
use borrow.Author.Tests.{ne_eqb}
use Rattle.screen.specs.Row.{Cell, blank, with_background, put, screen, clear}
use Rattle.screen.specs.Row.Contracts.{part, body_at, same_numbers, CellsReady}
use Rattle.screen.specs.Screen.{larger_of, cursor_of, reached, Reached, cut_left, row_of, screen_at, ClearReady, Moved}
use Rattle.screen.specs.declared.screen.Screen as code
use Rattle.screen.proofs.Clusters.{cursor_small}
use Rattle.screen.proofs.Writing.{larger_is, reached_row, row_clear}

module _ (list row : List ℕ) (width : ℕ) (t : code.Screen) (color : ℕ) (ready : ClearReady width row t color) (c : ℕ) (is : c ≡ cursor_of width t.at) where
  small : c ≤ width
  small = omega (arith, is, cursor_small width t.at ready.ready.some ready.ready.at)

  end_small : larger_of t.end c ≤ width
  end_small = omega (arith, larger_is t.end c, ready.ready.end, small)

  pub clear_reaches : CellsReady row t.end (larger_of t.end c)
  clear_reaches = record { order = omega (arith, larger_is t.end c); room = omega (arith, end_small, ready.ready.room) }

  abbrev end₁ : ℕ
  end₁ = larger_of t.end c

  abbrev after : code.Screen
  after = record { at = t.at; attributes = t.attributes; end = c; color = color; passed = t.passed }

  abbrev row₂ : List ℕ
  row₂ = cut_left list (reached row t c) end₁ c

  cleared_row : row_of list width row₂ after ≡ put c (replicate (width - c) (blank (with_background (part list color 4)))) (row_of list width row t)
  unfolding row_of
  cleared_row =
      let new : List Cell = replicate (width - c) (blank (with_background (part list color 4))) in
      let long : length (reached row t c) ≡ length row = length-sets row (3 * t.end) (same_numbers (c - t.end) 0 0 t.color) in
      rw (ne_eqb color 0 (λ z. omega (arith, z, ready.place)))
      (row_clear list width (reached row t c) end₁ c (omega (arith, larger_is t.end c)) end_small (omega (arith, long, ready.ready.room)) t.color new (length-replicate (width - c) (blank (with_background (part list color 4))))
      ∙ ap (put c new) (reached_row list width row t c ready.ready.end small ready.ready.room))

  cleared_same : screen_at list width row₂ after ≡ clear width (screen_at list width row t) (part list color 4)
  unfolding screen_at clear
  cleared_same = rw (← is) (ap (λ (cs : List Cell). screen cs c (eqb t.at width) (body_at list t.attributes) (not (eqb t.passed 0))) cleared_row)

  module _ (u : code.Screen) (row₁ : List ℕ) (reach : Reached row t c row₁ u) (long₁ : length row₁ ≡ length row) where
    pub clear_cuts : CellsReady row₁ 0 u.end
    clear_cuts = let e : u.end ≡ end₁ = ap (λ (x : code.Screen). x.end) reach.state in record { order = omega arith; room = omega (arith, e, end_small, long₁, ready.ready.room) }

    pub clear_step : (row' : List ℕ) → row' ≡ cut_left list row₁ u.end c → length row' ≡ length row → Moved list width row t (λ u. clear width u (part list color 4)) row' (record { at = u.at; attributes = u.attributes; end = c; color = color; passed = u.passed })
    clear_step row' cut long =
        let g : row' ≡ row₂ = cut ∙ ap₂ (λ (l : List ℕ) (x : code.Screen). cut_left list l x.end c) reach.numbers reach.state in
        rw reach.state
        record {
          same = ap (λ (l : List ℕ). screen_at list width l after) g ∙ cleared_same;
          ready = record { some = ready.ready.some; at = ready.ready.at; end = small; room = omega (arith, long, ready.ready.room) };
        }
