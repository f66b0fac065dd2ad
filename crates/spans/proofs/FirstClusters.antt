-- The first cluster of the run at a place, and the run behind it.
use mathlib.Core.Path.{◌≡◌, refl, sym, ap, ◌∙◌}
use Prim.Native.Nat.{ℕ, ◌+◌, ◌-◌, ◌≤◌}
use native.Mathlib.Nat.{add-zero}
use mathlib.Core.List.{List, [], ◌∷◌}
use lib.ListN.{length, drop, get_or, length-drop}
use lib.Seq.{drop-drop, get_or-drop}
use Rattle.text.specs.Utf8.{Scalar, decode, run_of, bytes_of}
use Rattle.text.specs.Utf8.Runs.{run_fits}
use Rattle.text.specs.Class.{Profile}
use Rattle.text.specs.Cluster.Laws.{clusters_nil, clusters_none}
use Rattle.text.specs.Cluster.Walk.{size_is, cluster_length, next_clusters}
use Rattle.text.specs.Utf8.Code.{size}
use Rattle.text.specs.Utf8.Code.Laws.{run_nil, size_nil}
use Rattle.spans.specs.Spans.FirstSpan.{extent}
use Rattle.spans.specs.Reader.{clusters_at}

-- what holds of a list holds if it does of none and of a first and others
pub by_first : {X : Type 0} (gs : List (List Scalar)) → (gs ≡ [] → X) → ((g : List Scalar) (hs : List (List Scalar)) → gs ≡ g ∷ hs → X) → X
by_first [] f h = f refl
by_first (g ∷ hs) f h = h g hs refl

pub no_clusters : (P : Profile) → clusters_at P [] ≡ []
no_clusters P = rw run_nil (clusters_nil P)

module _ (P : Profile) (t : List ℕ) (at : ℕ) where
  abbrev here : List (List Scalar)
  here = clusters_at P (drop at t)

  pub byte_here : get_or (drop at t) 0 0 ≡ get_or t at 0
  byte_here = get_or-drop at t 0 0 ∙ ap (λ (i : ℕ). get_or t i 0) (add-zero at)

  pub byte_next : get_or (drop at t) 1 0 ≡ get_or t (at + 1) 0
  byte_next = get_or-drop at t 1 0

-- ---- runs

pub size_none : (P : Profile) (s : List ℕ) → clusters_at P s ≡ [] → size (run_of (decode s)) ≡ 0
size_none P s e = rw (clusters_none P (run_of (decode s)) e) size_nil

-- the run's end stays where it is behind the first cluster
module _ (P : Profile) (t : List ℕ) (at : ℕ) (g : List Scalar) (gs : List (List Scalar)) (e : clusters_at P (drop at t) ≡ g ∷ gs) where
  pub behind_size : size (run_of (decode (drop at t))) ≡ extent g + size (run_of (decode (drop (at + extent g) t)))
  behind_size =
      size_is (run_of (decode (drop at t))) ∙ cluster_length P (drop at t) g gs e
      ∙ ap (λ (n : ℕ). extent g + n) (ap (λ (l : List ℕ). length (bytes_of (run_of (decode l)))) (drop-drop (extent g) at t) ∙ sym (size_is (run_of (decode (drop (at + extent g) t)))))

  pub behind_clusters : clusters_at P (drop (at + extent g) t) ≡ gs
  behind_clusters = ap (clusters_at P) (sym (drop-drop (extent g) at t)) ∙ next_clusters P (drop at t) g gs e

pub run_inside : (t : List ℕ) (at : ℕ) → size (run_of (decode (drop at t))) ≤ length t - at
run_inside t at = rw (size_is (run_of (decode (drop at t))), ← length-drop at t) (run_fits (drop at t))
