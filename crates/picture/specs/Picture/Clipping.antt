-- Clipping at columns within no cluster leaves the clusters inside the window, whole, and no spaces.
use Rattle.std.specs.Prelude.{◌≡◌, ℕ, ◌+◌, ◌-◌, ◌≤◌, true, ◌||◌, leb}
use Rattle.std.proofs.Math.Path.{refl, ap}
use Rattle.std.proofs.Common.{sym, ◌∙◌}
use native.Mathlib.Omega.{arith}
use mathlib.Core.List.{List, [], ◌∷◌, ◌++◌}
use Rattle.std.proofs.Math.Option.{some}
use Rattle.std.proofs.Math.Dec.{ltb}
use borrow.Author.Tests.{ltb-true, ltb-false, leb-true, leb-false, le-leb, lt-leb, lt-ltb, le-ltb, ne_eqb}
use Rattle.text.specs.Tests.{cases, or_false}
use Rattle.text.specs.Each.{all_cons}
use Rattle.text.specs.Utf8.{Scalar}
use Rattle.text.specs.Class.{Profile}
use Rattle.text.specs.Width.{width_of}
use Rattle.text.specs.Cluster.{clusters, join_all}
use Rattle.text.specs.Cluster.Laws.{clusters_all, clusters_nil}
use Rattle.text.specs.Cluster.Parts.{Ends, ends_none, ends_same, Clustered, none, more, clustered, first_before}
use Rattle.drawing.specs.Clip.{clip, clip_start, clip_end, spaces}
use Rattle.columns.specs.Columns.Wrapping.{widths, widths_total}
use Rattle.picture.specs.Picture.Window.{SomeWidth, inside, inside_right, inside_all, Outside}

module _ (P : Profile) where
  -- a text at column p, and a window from start to end
  module _ (p start end : ℕ) (h : start ≤ end) where
    clip_end_law : (gs : List (List Scalar)) → SomeWidth (widths P gs) → (c a : ℕ) → a ≡ p + c → start ≤ a → Outside end a (widths P gs) → clip_end P (end - p) c gs ≡ join_all (inside (width_of P) start end a gs)
    unfolding Outside join_all inside clip_end
    clip_end_law [] w c a e s o = refl
    clip_end_law (g ∷ gs) (all_cons w v) c a e s o =
        let n = ne_eqb (width_of P g) 0 (λ z. omega arith) in
        cases (ltb (end - p) (c + width_of P g))
        (λ t.
        let k = ltb-true (end - p) (c + width_of P g) t in
        let m : end ≤ a = cases (ltb a end) (λ q. absurd (omega (arith, o.0 (ltb-true a end q)))) (λ q. ltb-false a end q) in
        let z : end - p - c ≡ 0 = omega arith in
        rw (n, t, z) (sym (ap join_all (inside_right (width_of P) start end a (g ∷ gs) m))))
        (λ t.
        let k = ltb-false (end - p) (c + width_of P g) t in
        rw (n, t, le-leb start a s, lt-ltb a end (omega arith)) (ap (λ (x : List Scalar). g ++ x) (clip_end_law gs v (c + width_of P g) (a + width_of P g) (omega arith) (omega arith) o.1)))

    starts_here : (c : ℕ) (g : List Scalar) (gs : List (List Scalar)) → 1 ≤ width_of P g → leb (start - p) c ≡ true → clip_start P (start - p) (end - p) c (g ∷ gs) ≡ some (spaces (c - (start - p)) ++ clip_end P (end - p) c (g ∷ gs))
    unfolding clip_start
    starts_here c g gs w t = rw (ne_eqb (width_of P g) 0 (λ z. omega arith), t) refl

    clip_start_law : (gs : List (List Scalar)) → SomeWidth (widths P gs) → (c a : ℕ) → a ≡ p + c → c ≤ start - p → Outside start a (widths P gs) → Outside end a (widths P gs)
        → clip_start P (start - p) (end - p) c gs ≡ some (join_all (inside (width_of P) start end a gs))
    unfolding Outside join_all inside clip_start
    clip_start_law [] w c a e s o q = refl
    clip_start_law (g ∷ gs) (all_cons w v) c a e s o q =
        cases (leb (start - p) c)
        (λ t.
        let k = leb-true (start - p) c t in
        let z : c - (start - p) ≡ 0 = omega arith in
        starts_here c g gs w t ∙ ap (λ (n : ℕ). some (spaces n ++ clip_end P (end - p) c (g ∷ gs))) z ∙ ap some (clip_end_law (g ∷ gs) (all_cons w v) c a e (omega arith) q))
        (λ t.
        let k = leb-false (start - p) c t in
        let m : a + width_of P g ≤ start = o.0 (omega arith) in
        rw (ne_eqb (width_of P g) 0 (λ z. omega arith), t, le-ltb (end - p) (c + width_of P g) (omega arith), lt-leb start a (omega arith))
        (clip_start_law gs v (c + width_of P g) (a + width_of P g) (omega arith) (omega arith) o.1 q.1))

    pub clip_inside : (x : List Scalar) → p ≤ end → SomeWidth (widths P (clusters P x)) → Outside start p (widths P (clusters P x)) → Outside end p (widths P (clusters P x))
        → clip P (start - p) (end - p - (start - p)) x ≡ some (join_all (inside (width_of P) start end p (clusters P x)))
    unfolding clip
    clip_inside x r w o q =
        let n : start - p + (end - p - (start - p)) ≡ end - p = omega arith in
        cases (ltb 0 (start - p) || ltb (end - p - (start - p)) (width_of P x))
        (λ t. rw (t, n) (clip_start_law (clusters P x) w 0 p (omega arith) (omega arith) o q))
        (λ t.
        let f = or_false (ltb 0 (start - p)) (ltb (end - p - (start - p)) (width_of P x)) t in
        let k = ltb-false 0 (start - p) f.0 in
        let m = ltb-false (end - p - (start - p)) (width_of P x) f.1 in
        let i : inside (width_of P) start end p (clusters P x) ≡ clusters P x = inside_all (width_of P) start end p (clusters P x) w (omega arith) (omega (arith, widths_total P x)) in
        rw t (ap some (sym (ap join_all i ∙ clusters_all P x))))

  -- ---- what is left has these clusters

  -- clusters of a text that begins as s does, or of none
  record Front (s : List Scalar) (gs : List (List Scalar)) : Type 0 where
    same : clusters P (join_all gs) ≡ gs
    ends : Ends P s (join_all gs)

  no_clusters : (s : List Scalar) → Front s []
  unfolding join_all
  no_clusters s = record { same = clusters_nil P; ends = ends_none P s }

  front : {s : List Scalar} {gs : List (List Scalar)} → Clustered P s gs → (o l c : ℕ) → o ≤ c → Front s (inside (width_of P) o l c gs)
  unfolding join_all inside
  front none o l c h = no_clusters []
  front (more {c = d} {x = x} {rest = rest} {gs = gs} e k) o l c h =
      let f = front k o l (c + width_of P (d ∷ x)) (omega arith) in
      let r : List Scalar = join_all (inside (width_of P) o l (c + width_of P (d ∷ x)) gs) in
      cases (ltb c l)
      (λ t. rw (le-leb o c h, t) (record { same = first_before P d x rest r e f.ends ∙ ap (λ (gs : List (List Scalar)). (d ∷ x) ∷ gs) f.same; ends = ends_same P d (x ++ rest) (x ++ r) }))
      (λ t. rw (le-leb o c h, t, inside_right (width_of P) o l (c + width_of P (d ∷ x)) gs (omega (arith, ltb-false c l t))) (no_clusters (d ∷ (x ++ rest))))

  inside_clustered : {s : List Scalar} {gs : List (List Scalar)} → Clustered P s gs → (o l c : ℕ) → clusters P (join_all (inside (width_of P) o l c gs)) ≡ inside (width_of P) o l c gs
  unfolding join_all inside
  inside_clustered none o l c = clusters_nil P
  inside_clustered (more {c = d} {x = x} e k) o l c = cases (leb o c) (λ t. (front (more e k) o l c (leb-true o c t)).same) (λ t. rw t (inside_clustered k o l (c + width_of P (d ∷ x))))

  pub inside_clusters : (o l c : ℕ) (s : List Scalar) → clusters P (join_all (inside (width_of P) o l c (clusters P s))) ≡ inside (width_of P) o l c (clusters P s)
  inside_clusters o l c s = inside_clustered (clustered P (clusters P s) s refl) o l c
