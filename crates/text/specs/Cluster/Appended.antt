-- The clusters of a text in two parts.
use Rattle.std.specs.Prelude.{◌≡◌, ℕ, Bool, eqb}
use Rattle.std.proofs.Math.Path.{refl, sym, ap}
use Rattle.std.proofs.Common.{◌∙◌, eqb-true}
use Rattle.std.proofs.Math.Bool.{true, false, and-false}
use mathlib.Core.List.{List, [], ◌∷◌, ◌++◌, reverse, reverse_aux}
use Rattle.text.specs.Tests.{cases}
use Rattle.text.specs.Utf8.{Scalar}
use Rattle.text.specs.Class.{Profile, among, number}
use Rattle.text.specs.Cluster.{Context, start, after, class_of, context, joins, joins_next, add_to_cluster, clusters_after, clusters}
use Rattle.text.specs.Cluster.Laws.{same_after, restart}
use Rattle.text.specs.Class.Laws.{alone_or_lf}

-- the clusters xs, and behind them ys; where j says so, no boundary is between them: the last of xs and the first of ys are one
unfoldable append_clusters : Bool → List (List Scalar) → List (List Scalar) → List (List Scalar)
append_clusters j [] ys = ys
append_clusters false (g ∷ []) ys = g ∷ ys
append_clusters true (g ∷ []) [] = g ∷ []
append_clusters true (g ∷ []) (h ∷ ys) = (g ++ h) ∷ ys
append_clusters j (g ∷ h ∷ gs) ys = g ∷ append_clusters j (h ∷ gs) ys

-- the same of clusters zs that are known: the last of xs and the first of ys are apart, or one
pub data Appended : List (List Scalar) → List (List Scalar) → List (List Scalar) → Type 0 where
  none : {ys : List (List Scalar)} → Appended [] ys ys
  apart : {g : List Scalar} {ys : List (List Scalar)} → Appended (g ∷ []) ys (g ∷ ys)
  shared : {g h : List Scalar} {ys : List (List Scalar)} → Appended (g ∷ []) (h ∷ ys) ((g ++ h) ∷ ys)
  more : {f g : List Scalar} {xs ys zs : List (List Scalar)} → Appended (g ∷ xs) ys zs → Appended (f ∷ g ∷ xs) ys (f ∷ zs)

appended : (j : Bool) (xs ys : List (List Scalar)) → Appended xs ys (append_clusters j xs ys)
unfolding append_clusters
appended j [] ys = none
appended false (g ∷ []) ys = apart
appended true (g ∷ []) [] = apart
appended true (g ∷ []) (h ∷ ys) = shared
appended false (g ∷ h ∷ xs) ys = more (appended false (h ∷ xs) ys)
appended true (g ∷ h ∷ xs) ys = more (appended true (h ∷ xs) ys)

append_apart : (xs ys : List (List Scalar)) → append_clusters false xs ys ≡ xs ++ ys
unfolding append_clusters
append_apart [] ys = refl
append_apart (g ∷ []) ys = refl
append_apart (g ∷ h ∷ xs) ys = ap (λ (gs : List (List Scalar)). g ∷ gs) (append_apart (h ∷ xs) ys)

-- behind these classes the context starts anew
pub restarted : (k : Context) (n : ℕ) → alone_or_lf n ≡ true → after k n ≡ start
unfolding after among number
restarted k n g =
    cases (eqb n 0)
    (λ e. rw (eqb-true n 0 e) (simp and-false))
    (λ e. cases (eqb n 1)
    (λ f. rw (eqb-true n 1 f) (simp and-false))
    (λ f. cases (eqb n 2) (λ i. rw (eqb-true n 2 i) (simp and-false)) (λ i. rw (eqb-true n 11 (rw (e, f, i) at g)) (simp and-false))))

module _ (P : Profile) where
  append_one : (j : Bool) (d : Scalar) (ys : List (List Scalar)) → add_to_cluster P j d ys ≡ append_clusters j ((d ∷ []) ∷ []) ys
  unfolding append_clusters add_to_cluster
  append_one false d ys = refl
  append_one true d [] = refl
  append_one true d (g ∷ ys) = refl

  add_some : (j w : Bool) (d : Scalar) (g : List Scalar) (gs ys : List (List Scalar)) → add_to_cluster P w d (append_clusters j (g ∷ gs) ys) ≡ append_clusters j (add_to_cluster P w d (g ∷ gs)) ys
  unfolding append_clusters add_to_cluster
  add_some j false d g gs ys = refl
  add_some false true d g [] ys = refl
  add_some true true d g [] [] = refl
  add_some true true d g [] (h ∷ ys) = refl
  add_some false true d g (h ∷ gs) ys = refl
  add_some true true d g (h ∷ gs) ys = refl

  add_append : (j w v : Bool) (d e : Scalar) (gs ys : List (List Scalar)) → add_to_cluster P w d (append_clusters j (add_to_cluster P v e gs) ys) ≡ append_clusters j (add_to_cluster P w d (add_to_cluster P v e gs)) ys
  unfolding add_to_cluster
  add_append j w false d e gs ys = add_some j w d (e ∷ []) gs ys
  add_append j w true d e [] ys = add_some j w d (e ∷ []) [] ys
  add_append j w true d e (g ∷ gs) ys = add_some j w d (e ∷ g) gs ys

  append_after : (b a before : List Scalar) (d : Scalar)
      → clusters_after P before (d ∷ (a ++ b)) ≡ append_clusters (joins_next P (reverse_aux a (d ∷ before)) b) (clusters_after P before (d ∷ a)) (clusters_after P (reverse_aux a (d ∷ before)) b)
  unfolding clusters_after
  append_after b [] before d = append_one (joins_next P (d ∷ before) b) d (clusters_after P (d ∷ before) b)
  append_after b (e ∷ a) before d =
      let t : List Scalar = reverse_aux a (e ∷ d ∷ before) in
      ap (add_to_cluster P (joins P (d ∷ before) e) d) (append_after b a (d ∷ before) e)
      ∙ add_append (joins_next P t b) (joins P (d ∷ before) e) (joins_next P (e ∷ d ∷ before) a) d e (clusters_after P (e ∷ d ∷ before) a) (clusters_after P t b)

  clusters_append : (a b : List Scalar) → clusters P (a ++ b) ≡ append_clusters (joins_next P (reverse a) b) (clusters P a) (clusters_after P (reverse a) b)
  unfolding append_clusters clusters
  clusters_append [] b = refl
  clusters_append (d ∷ a) b = append_after b a [] d

  pub clusters_appended : (a b : List Scalar) → Appended (clusters P a) (clusters_after P (reverse a) b) (clusters P (a ++ b))
  clusters_appended a b = rw (clusters_append a b) (appended (joins_next P (reverse a) b) (clusters P a) (clusters_after P (reverse a) b))

  -- ---- a boundary cuts the clusters in two

  module _ (c : Scalar) (y : List Scalar) where
    -- the clusters before a boundary, and those behind it
    pub clusters_cut : (x : List Scalar) → joins P (reverse x) c ≡ false → clusters P (x ++ (c ∷ y)) ≡ clusters P x ++ clusters P (c ∷ y)
    unfolding joins_next
    clusters_cut x e = clusters_append x (c ∷ y) ∙ rw (e, restart P (reverse x) c y e) (append_apart (clusters P x) (clusters P (c ∷ y)))

    -- of a scalar that joins nothing before it
    pub clusters_split : ((before : List Scalar) → joins P before c ≡ false) → (x : List Scalar) → clusters P (x ++ (c ∷ y)) ≡ clusters P x ++ clusters P (c ∷ y)
    clusters_split alone x = clusters_cut x (alone (reverse x))

  -- ---- a scalar behind which the context starts anew

  module _ (c : Scalar) (h : alone_or_lf (class_of P c) ≡ true) where
    alone_context : (a : List Scalar) → context P (c ∷ a) ≡ start
    unfolding context
    alone_context a = restarted (context P a) (class_of P c) h

    -- in front of a text
    pub alone_front : (s : List Scalar) → Appended ((c ∷ []) ∷ []) (clusters P s) (clusters P (c ∷ s))
    unfolding clusters clusters_after
    alone_front [] = apart
    alone_front (d ∷ s) =
        rw (same_after P s d (c ∷ []) [] (ap (λ (k : Context). after k (class_of P d)) (alone_context [])), append_one (joins P (c ∷ []) d) c (clusters_after P [] (d ∷ s)))
        (appended (joins P (c ∷ []) d) ((c ∷ []) ∷ []) (clusters_after P [] (d ∷ s)))

    -- behind a text
    pub alone_behind : (a s : List Scalar) → Appended (clusters P a) (clusters P (c ∷ s)) (clusters P (a ++ (c ∷ s)))
    unfolding clusters
    alone_behind a s = rw (same_after P s c (reverse a) [] (alone_context (reverse a) ∙ sym (alone_context []))) at (clusters_appended a (c ∷ s))
