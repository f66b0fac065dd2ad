-- A cluster of a text: what it does to the screen that the numbers stand for.
use mathlib.Core.Path.{◌≡◌, refl, sym, ap, ◌∙◌}
use Prim.Native.Nat.{ℕ, zero, suc, ◌+◌, ◌-◌, ◌<◌, ◌≤◌}
use native.Mathlib.Omega.{arith}
use mathlib.Core.Bool.{true, false, ◌&&◌, ◌||◌, and-false}
use mathlib.Core.Logic.{◌≢◌}
use mathlib.Core.List.{List, [], ◌∷◌}
use lib.ListN.{length, take, drop, get_or, length-drop}
use lib.Seq.{get_or-drop}
use lib.Dec.{eqb, ltb}
use borrow.Author.Tests.{ne_eqb, lt-ltb, le-ltb, eqb-true, eqb-false, ltb-true, ltb-false}
use Rattle.text.specs.Tests.{cases}
use Rattle.text.specs.Utf8.{same_bytes}
use Rattle.screen.specs.Row.{back, write}
use Rattle.screen.specs.Row.Contracts.{part}
use Rattle.screen.specs.Screen.{with_at, cursor_of, screen_at, row_of, formed, cluster_on, ClusterOnReady, Moved, Stepped}
use Rattle.std.proofs.Math.Option as option
use Rattle.std.specs.Prelude.{None, Some}
use Rattle.screen.specs.declared.screen.Screen as code

one_byte_law : (s : List ℕ) (n b : ℕ) → n ≤ length s → same_bytes (take n s) (b ∷ []) ≡ (eqb (get_or s 0 0) b && eqb n 1)
unfolding same_bytes
one_byte_law s zero b h = sym (and-false (eqb (get_or s 0 0) b))
one_byte_law [] (suc n) b h = absurd (omega arith)
one_byte_law (a ∷ s) (suc zero) b h = refl
one_byte_law (a ∷ []) (suc (suc n)) b h = absurd (omega arith)
one_byte_law (a ∷ c ∷ s) (suc (suc n)) b h = rw (ne_eqb (suc (suc n)) 1 (λ e. omega (arith, e))) refl

passes_is : (width at w : ℕ) → at ≤ width → 0 < w → (eqb at width || ltb width (cursor_of width at + w)) ≡ ltb (width - at) w
passes_is width at w inside some =
    cases (eqb at width)
    (λ f. let k : at ≡ width = eqb-true at width f in rw f (sym (lt-ltb (width - at) w (omega arith))))
    (λ f. rw f (cases (ltb (width - at) w)
    (λ g. rw g (lt-ltb width (at + w) (let h = ltb-true (width - at) w g in omega arith)))
    (λ g. rw g (le-ltb width (at + w) (let h = ltb-false (width - at) w g in omega arith)))))

pub cursor_small : (width at : ℕ) → 0 < width → at ≤ width → cursor_of width at < width
cursor_small width at some inside = cases (eqb at width) (λ e. rw e (omega arith)) (λ e. rw e (let n = eqb-false at width e in omega arith))

module _ (list row : List ℕ) (width : ℕ) (t : code.Screen) (p e w : ℕ) (ready : ClusterOnReady list width row t p e) (b : ℕ) (byte : b ≡ get_or list p 0) where
  abbrev g : List ℕ
  g = part list p (e - p)

  backspace_is : same_bytes g (0x08 ∷ []) ≡ (eqb b 0x08 && eqb (e - p) 1)
  backspace_is =
      let n : p + 0 ≡ p = omega arith in
      one_byte_law (drop p list) (e - p) 0x08 (omega (arith, length-drop p list, ready.inside))
      ∙ ap (λ (x : ℕ). eqb x 0x08 && eqb (e - p) 1) (get_or-drop p list 0 0 ∙ ap (λ (k : ℕ). get_or list k 0) n ∙ sym byte)

  pub cluster_back : (r : code.Screen) → (eqb b 0x08 && eqb (e - p) 1) ≡ true → r ≡ with_at t (cursor_of width t.at - 1) → Stepped list width row t (cluster_on width g w) row (Some r)
  unfolding screen_at row_of cluster_on formed back
  cluster_back r is e =
      let c = cursor_small width t.at ready.ready.some ready.ready.at in
      let n : eqb (cursor_of width t.at - 1) width ≡ false = ne_eqb (cursor_of width t.at - 1) width (λ z. omega (arith, z, c)) in
      rw e
      record {
        same = rw (n, backspace_is ∙ is) refl;
        ready = record { some = ready.ready.some; at = omega (arith, c); end = ready.ready.end; room = ready.ready.room };
      }

  module _ (other : (eqb b 0x08 && eqb (e - p) 1) ≡ false) where
    pub cluster_narrow : w ≡ 0 → Stepped list width row t (cluster_on width g w) row None
    unfolding cluster_on formed
    cluster_narrow z = record { same = rw (backspace_is ∙ other, z) refl; ready = tt }

    module _ (some_columns : w ≢ 0) where
      some : 0 < w
      some = omega (arith, some_columns)

      pub cluster_passes : width - t.at < w → Stepped list width row t (cluster_on width g w) row (Some (record { at = t.at; attributes = t.attributes; end = t.end; color = t.color; passed = w }))
      unfolding screen_at row_of cluster_on formed
      cluster_passes h =
          let q = passes_is width t.at w ready.ready.at some ∙ lt-ltb (width - t.at) w h in
          record {
            same = rw (backspace_is ∙ other, lt-ltb 0 w some, q, ne_eqb w 0 some_columns) refl;
            ready = record { some = ready.ready.some; at = ready.ready.at; end = ready.ready.end; room = ready.ready.room };
          }

      pub cluster_written : (row' : List ℕ) (r : code.Screen) → w ≤ width - t.at → Moved list width row t (λ u. write width u g w) row' r → Stepped list width row t (cluster_on width g w) row' (Some r)
      unfolding screen_at cluster_on formed
      cluster_written row' r h s =
          let q = passes_is width t.at w ready.ready.at some ∙ le-ltb (width - t.at) w h in
          record { same = ap option.some s.same ∙ rw (backspace_is ∙ other, lt-ltb 0 w some, q) refl; ready = s.ready }
