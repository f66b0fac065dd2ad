-- Clusters of parts of a text.
use Rattle.std.proofs.Math.Path.{◌≡◌, refl, sym, subst}
use Rattle.std.proofs.Common.{ap, ◌∙◌, take-append-drop, length-take-le}
use Prim.Native.Nat.{ℕ, suc, ◌≤◌, suc-le-suc}
use native.Mathlib.Omega.{arith}
use Rattle.std.specs.Prelude.{false, length}
use mathlib.Core.List.{List, [], ◌∷◌, ◌++◌}
use Rattle.std.proofs.Math.ListN.{take, drop}
use Rattle.std.proofs.Math.Seq.{take-append_seam, drop-append_seam}
use Rattle.text.specs.Tests.{cases}
use Rattle.text.specs.Each.{All, all_cons}
use Rattle.text.specs.Utf8.{Scalar}
use Rattle.text.specs.Class.{Profile, among, number}
use Rattle.text.specs.Width.{width_of}
use Rattle.text.specs.Width.Laws.{width_cons}
use Rattle.text.specs.Cluster.{class_of, context, joins, joins_next, clusters_after, clusters}
use Rattle.text.specs.Cluster.Appended.{Appended, apart, shared, alone_front}
use Rattle.text.specs.Cluster.Laws.{further, clusters_first, clusters_none}
use Rattle.text.specs.Segmentation.Boundaries.{alone_numbers, other_alone}

module _ (P : Profile) where
  -- ---- the first cluster, with other text behind it

  -- what does not join y does not join z
  abbrev pub Ends : List Scalar → List Scalar → Type 0
  Ends y z = (before : List Scalar) → joins_next P before y ≡ false → joins_next P before z ≡ false

  pub ends_none : (y : List Scalar) → Ends y []
  unfolding joins_next
  ends_none y before e = refl

  pub ends_same : (c : Scalar) (y z : List Scalar) → Ends (c ∷ y) (c ∷ z)
  unfolding joins_next
  ends_same c y z before e = e

  pub ends_other : (y : List Scalar) (c : Scalar) (s : List Scalar) → class_of P c ≡ 11 → Ends y (c ∷ s)
  unfolding joins_next joins
  ends_other y c s h [] e = refl
  ends_other y c s h (p ∷ ps) e = alone_numbers (class_of P p) (context P (p ∷ ps)) (class_of P c) (rw h other_alone)

  further_le : (s before : List Scalar) → further P before s ≤ length s
  unfolding further
  further_le [] before = omega arith
  further_le (d ∷ s) before = cases (joins P before d) (λ j. rw j (suc-le-suc (further_le s (d ∷ before)))) (λ j. rw j (omega arith))

  none_further : (before y : List Scalar) → joins_next P before y ≡ false → further P before y ≡ 0
  unfolding joins_next further
  none_further before [] e = refl
  none_further before (d ∷ y) e = rw e

  further_none : (before y : List Scalar) → further P before y ≡ 0 → joins_next P before y ≡ false
  unfolding joins_next further
  further_none before [] e = refl
  further_none before (d ∷ y) e = cases (joins P before d) (λ j. absurd (let z = rw j at e in omega arith)) (λ j. j)

  further_ends : (x before y z : List Scalar) → Ends y z → further P before (x ++ y) ≡ length x → further P before (x ++ z) ≡ length x
  unfolding further
  further_ends [] before y z h e = none_further before z (h before (further_none before y e))
  further_ends (d ∷ x) before y z h e =
      cases (joins P before d)
      (λ j. rw j (ap suc (further_ends x (d ∷ before) y z h (let f = rw j at e in omega arith))))
      (λ j. absurd (let f = rw j at e in omega arith))

  -- the clusters of a text, each the first of what it begins
  pub data Clustered : List Scalar → List (List Scalar) → Type 0 where
    none : Clustered [] []
    more : {c : Scalar} {x rest : List Scalar} {gs : List (List Scalar)} → further P (c ∷ []) (x ++ rest) ≡ length x → Clustered rest gs → Clustered (c ∷ (x ++ rest)) ((c ∷ x) ∷ gs)

  pub clustered : (gs : List (List Scalar)) (s : List Scalar) → clusters P s ≡ gs → Clustered s gs
  unfolding clusters clusters_after
  clustered [] s e = subst (λ (s : List Scalar). Clustered s []) (sym (clusters_none P s e)) none
  clustered (g ∷ gs) [] e = absurd (let z : ◌≡◌ {A = ℕ} 0 1 = cc in omega arith)
  clustered (g ∷ gs) (c ∷ s) e =
      let k : ℕ = further P (c ∷ []) s in
      let f : (c ∷ take k s) ∷ clusters P (drop k s) ≡ g ∷ gs = sym (clusters_first P c s) ∙ e in
      let h : c ∷ take k s ≡ g = cc in
      let o : clusters P (drop k s) ≡ gs = cc in
      let m : Clustered (c ∷ (take k s ++ drop k s)) ((c ∷ take k s) ∷ gs) =
      more (ap (further P (c ∷ [])) (take-append-drop k s) ∙ sym (length-take-le k s (further_le s (c ∷ [])))) (clustered gs (drop k s) o) in
      subst (λ (g : List Scalar). Clustered (c ∷ s) (g ∷ gs)) h (subst (λ (t : List Scalar). Clustered (c ∷ t) ((c ∷ take k s) ∷ gs)) (take-append-drop k s) m)

  pub first_before : (c : Scalar) (x y z : List Scalar) → further P (c ∷ []) (x ++ y) ≡ length x → Ends y z → clusters P (c ∷ (x ++ z)) ≡ (c ∷ x) ∷ clusters P z
  first_before c x y z e h = clusters_first P c (x ++ z) ∙ rw (further_ends x (c ∷ []) y z h e, take-append_seam x z, drop-append_seam x z)

  -- ---- clusters that all have a width

  abbrev pub Wide : List (List Scalar) → Type 0
  Wide gs = All (λ (g : List Scalar). 1 ≤ width_of P g) gs

  -- with a scalar of class other and of some width in front they still do
  pub other_wide : (c : Scalar) (s : List Scalar) → class_of P c ≡ 11 → 1 ≤ P.width c.code → Wide (clusters P s) → Wide (clusters P (c ∷ s))
  unfolding among number
  other_wide c s h w a = by (alone_front P c (rw h refl) s) a
    where
      by : {gs hs : List (List Scalar)} → Appended ((c ∷ []) ∷ []) gs hs → Wide gs → Wide hs
      by apart a = all_cons {a = c ∷ []} (omega (arith, width_cons P c [])) a
      by (shared {h = g}) (all_cons v a) = all_cons {a = c ∷ g} (omega (arith, width_cons P c g)) a
