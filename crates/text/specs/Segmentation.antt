-- Forward segmentation: a cluster with the scalar after it, and what single bytes say of clusters.
use Rattle.std.specs.Prelude.{◌+◌, ◌<◌, ℕ, Option, Bool, ◌&&◌, cond, not, List, [], ◌∷◌, ◌≡◌, eqb, ltb, get_or, length}
use Rattle.text.specs.Class.{Profile}
use Rattle.text.specs.Cluster.{Context, after, class_of, clusters, joined}
use Rattle.text.specs.Scalar.{scalar_here}
use Rattle.text.specs.declared.scalar.Scalar as packed
use Rattle.text.specs.TextParts.{Measured, text_at}
use Rattle.text.specs.Utf8.{Scalar}
use Rattle.text.specs.Utf8.Code.{size}
use Rattle.text.specs.declared.segmentation.ClusterStep.{ClusterStep}
pub mod Laws
pub mod Boundaries

-- a control below 20, CR apart, or else a byte below 80 and behind it another or nothing
abbrev pub one_byte_cluster : List ℕ → ℕ → Bool
one_byte_cluster s i = cond (ltb (get_or s i 0) 0x20) (not (eqb (get_or s i 0) 0x0D)) (ltb (get_or s i 0) 0x80 && ltb (get_or s (i + 1) 0) 0x80)

-- a byte below 80, LF apart
abbrev pub never_joins_before : ℕ → Bool
never_joins_before b = ltb b 0x80 && not (eqb b 0x0A)

unfoldable pub first_of : List (List Scalar) → List Scalar
first_of [] = []
first_of (g ∷ gs) = g

module _ (P : Profile) where
  -- the bytes of a text's first cluster
  unfoldable pub first_size : List Scalar → ℕ
  first_size s = size (first_of (clusters P s))

  -- the scalars that belong to the cluster before them, which ends in class p with context k
  unfoldable pub more_of : ℕ → Context → List Scalar → List Scalar
  more_of p k [] = []
  more_of p k (c ∷ s) = let l : List Scalar = c ∷ more_of (class_of P c) (after k (class_of P c)) s in cond (joined p k (class_of P c)) l []

  -- u is the scalar at the place
  pub record NextClusterReady (s : List ℕ) (at : ℕ) (u : Option packed.Scalar) : Type 0 where
    pub inside : at < length s
    pub scalar : u ≡ scalar_here P s at

  -- r is the first cluster at the place, with the scalar after it
  pub record NextCluster (s : List ℕ) (at : ℕ) (r : ClusterStep) : Type 0 where
    pub part : Measured P s at (first_of (clusters P (text_at s at))) r.part
    pub next : r.next ≡ scalar_here P s r.part.end.0
