-- Each scalar of a cluster joins those before it.
use Rattle.std.specs.Prelude.{◌≡◌, refl, true, length}
use Rattle.std.proofs.Common.{arith}
use mathlib.Core.List.{List, [], ◌∷◌, ◌++◌}
use Rattle.text.specs.Tests.{cases}
use Rattle.text.specs.Each.{All, all_nil, all_cons}
use Rattle.text.specs.Utf8.{Scalar}
use Rattle.text.specs.Class.{Profile}
use Rattle.text.specs.Cluster.{joins, clusters}
use Rattle.text.specs.Cluster.Laws.{further}
use Rattle.text.specs.Cluster.Parts.{Clustered, none, more, clustered}

module _ (P : Profile) where
  unfoldable pub Joined : List Scalar → List Scalar → Type 0
  Joined before [] = Unit {0}
  Joined before (c ∷ s) = (joins P before c ≡ true) × Joined (c ∷ before) s

  further_joined : (x before rest : List Scalar) → further P before (x ++ rest) ≡ length x → Joined before x
  unfolding Joined further
  further_joined [] before rest e = tt
  further_joined (c ∷ x) before rest e =
      cases (joins P before c) (λ j. (j, further_joined x (c ∷ before) rest (let f = rw j at e in omega arith))) (λ j. absurd (let f = rw j at e in omega arith))

  -- what holds of a scalar and those that join it holds of every cluster
  module _ (Q : List Scalar → Type 0) (h : (c : Scalar) (s : List Scalar) → Joined (c ∷ []) s → Q (c ∷ s)) where
    clustered_joined : {s : List Scalar} {gs : List (List Scalar)} → Clustered P s gs → All Q gs
    clustered_joined none = all_nil
    clustered_joined (more {c = c} {x = x} {rest = rest} e k) = all_cons (h c x (further_joined x (c ∷ []) rest e)) (clustered_joined k)

    pub clusters_joined : (s : List Scalar) → All Q (clusters P s)
    clusters_joined s = clustered_joined (clustered P (clusters P s) s refl)
