-- Two texts whose scalars have the same classes, one by one, have the same boundaries; with the same widths they are as wide.
use Rattle.std.specs.Prelude.{◌≡◌, ℕ, ◌+◌, Bool, List, ◌∷◌}
use Rattle.std.proofs.Math.Path.{refl, ap, ap₂, subst}
use Rattle.std.proofs.Common.{◌∙◌}
use Rattle.std.proofs.Math.Bool.{true, false}
use Rattle.text.specs.Each.{Each, nil, cons}
use Rattle.text.specs.Utf8.{Scalar}
use Rattle.text.specs.Class.{Profile}
use Rattle.text.specs.Width.{width_of}
use Rattle.text.specs.Cluster.{Context, after, joined, class_of, context, joins, joins_next, add_to_cluster, clusters_after, clusters}

module _ (P : Profile) (R : Scalar → Scalar → Type 0) where
  pub width_of_each : ((x y : Scalar) → R x y → P.width x.code ≡ P.width y.code) → {s t : List Scalar} → Each R s t → width_of P s ≡ width_of P t
  unfolding width_of
  width_of_each h nil = refl
  width_of_each h (cons {a = x} {b = y} r e) = ap₂ (λ (m n : ℕ). m + n) (h x y r) (width_of_each h e)

  module _ (class : (x y : Scalar) → R x y → class_of P x ≡ class_of P y) where
    context_each : {s t : List Scalar} → Each R s t → context P s ≡ context P t
    unfolding context
    context_each nil = refl
    context_each (cons {a = x} {b = y} r e) = ap₂ after (context_each e) (class x y r)

    joins_each : {s t : List Scalar} {x y : Scalar} → Each R s t → R x y → joins P s x ≡ joins P t y
    unfolding joins
    joins_each nil r = refl
    joins_each {x = x} {y = y} (cons {a = u} {b = v} {s = s} {t = t} q e) r =
        ap₂ (λ (m n : ℕ). joined m (context P (u ∷ s)) n) (class u v q) (class x y r) ∙ ap (λ (k : Context). joined (class_of P v) k (class_of P y)) (context_each (cons q e))

    joins_next_each : {u v s t : List Scalar} → Each R u v → Each R s t → joins_next P u s ≡ joins_next P v t
    unfolding joins_next
    joins_next_each e nil = refl
    joins_next_each e (cons r f) = joins_each e r

    add_to_cluster_each : (w : Bool) {x y : Scalar} {gs hs : List (List Scalar)} → R x y → Each (Each R) gs hs → Each (Each R) (add_to_cluster P w x gs) (add_to_cluster P w y hs)
    unfolding add_to_cluster
    add_to_cluster_each false r e = cons (cons r nil) e
    add_to_cluster_each true r nil = cons (cons r nil) nil
    add_to_cluster_each true r (cons g e) = cons (cons r g) e

    clusters_after_each : {u v s t : List Scalar} → Each R u v → Each R s t → Each (Each R) (clusters_after P u s) (clusters_after P v t)
    unfolding clusters_after
    clusters_after_each e nil = nil
    clusters_after_each {u} {v} e (cons {a = x} {b = y} {s = s} {t = t} r f) =
        subst (λ (w : Bool). Each (Each R) (add_to_cluster P (joins_next P (x ∷ u) s) x (clusters_after P (x ∷ u) s)) (add_to_cluster P w y (clusters_after P (y ∷ v) t)))
        (joins_next_each (cons r e) f)
        (add_to_cluster_each (joins_next P (x ∷ u) s) r (clusters_after_each (cons r e) f))

    pub clusters_each : {s t : List Scalar} → Each R s t → Each (Each R) (clusters P s) (clusters P t)
    unfolding clusters
    clusters_each e = clusters_after_each nil e
