-- A text's first cluster.
use Rattle.std.specs.Prelude.{◌≡◌, ℕ, List, [], ◌∷◌, ◌++◌, take, drop}
use Rattle.std.proofs.Common.{sym, ap, ◌∙◌, take-append-drop}
use Rattle.text.specs.Utf8.{Scalar}
use Rattle.text.specs.Class.{Profile}
use Rattle.text.specs.Cluster.{clusters}
use Rattle.text.specs.Cluster.Laws.{clusters_first, further}
use Rattle.text.specs.Segmentation.{first_of}

pub record FirstCluster (P : Profile) (t : List Scalar) : Type 0 where
  pub rest : List Scalar
  pub text : t ≡ first_of (clusters P t) ++ rest
  pub clusters : clusters P t ≡ first_of (clusters P t) ∷ clusters P rest

-- the first cluster, and the clusters of the rest
pub first_cluster : (P : Profile) (c : Scalar) (s : List Scalar) → FirstCluster P (c ∷ s)
unfolding first_of
first_cluster P c s =
    let k : ℕ = further P (c ∷ []) s in
    let e : first_of (clusters P (c ∷ s)) ≡ c ∷ take k s = ap first_of (clusters_first P c s) in
    record {
      rest = drop k s;
      text = rw e (ap (λ (l : List Scalar). c ∷ l) (sym (take-append-drop k s)));
      clusters = clusters_first P c s ∙ ap (λ (g : List Scalar). g ∷ clusters P (drop k s)) (sym e);
    }
