-- The clusters that a sequence takes with it.
use mathlib.Core.Path.{◌≡◌, refl, ap, ◌∙◌}
use Prim.Native.Nat.{ℕ, zero, suc, ◌+◌, ◌-◌, ◌≤◌, ◌<◌}
use native.Mathlib.Omega.{arith}
use mathlib.Core.List.{List, [], ◌∷◌, ◌++◌}
use mathlib.Core.Logic.{◌≢◌}
use lib.ListN.{length, drop}
use lib.Seq.{drop-drop, get_or-drop}
use borrow.Author.Tests.{eqb-true, eqb-false}
use lib.Dec.{eqb}
use Rattle.text.specs.Tests.{cases}
use Rattle.text.specs.Utf8.{Scalar, decode, run_of}
use Rattle.text.specs.Utf8.Laws.{bytes_nil}
use Rattle.text.specs.Class.{Profile}
use Rattle.text.specs.Cluster.{join_all}
use Rattle.text.specs.Cluster.Laws.{join_length, join_nil}
use Rattle.text.specs.Cluster.Walk.{size_is, first_size_law, cluster_some}
use Rattle.text.specs.Class.Code.{profile_of}
use Rattle.text.specs.Utf8.Code.{size}
use Rattle.text.specs.Segmentation.{first_size}
use Rattle.text.specs.Segmentation.Boundaries.{Boundary, lone_boundary}
use Rattle.text.specs.Class.Profile01.{ascii_classes}
use Rattle.text.specs.declared.class.Profile as code
use Rattle.spans.specs.Spans.FirstSpan.{extent, skipped}
use Rattle.spans.specs.Reader.{clusters_at, run_at, InRun, SkipToReady, SkippedTo}
use Rattle.spans.proofs.FirstClusters.{by_first, size_none, behind_size, behind_clusters, run_inside}

pub skip_none : (P : Profile) (k : ℕ) (gs : List (List Scalar)) → k ≡ 0 → skipped P k gs ≡ 0
unfolding skipped
skip_none P zero [] e = refl
skip_none P zero (g ∷ gs) e = refl
skip_none P (suc k) gs e = absurd (omega arith)

skip_first : (P : Profile) (k : ℕ) (g : List Scalar) (gs : List (List Scalar)) → 1 ≤ k → skipped P k (g ∷ gs) ≡ extent g + skipped P (k - extent g) gs
unfolding skipped
skip_first P zero g gs h = absurd (omega arith)
skip_first P (suc k) g gs h = refl

pub record SkipLoop (P : Profile) (t : List ℕ) (at stop i : ℕ) : Type 0 where
  pub same : i + skipped P (stop - i) (clusters_at P (drop i t)) ≡ at + skipped P (stop - at) (clusters_at P (drop at t))
  pub run : run_at t i ≡ run_at t at
  pub ahead : stop ≤ run_at t i

skip_begin : (P : Profile) (t : List ℕ) (at stop : ℕ) → InRun t at stop → SkipLoop P t at stop at
skip_begin P t at stop h = record { same = refl; run = refl; ahead = h }

module _ (P : Profile) (t : List ℕ) (at stop i : ℕ) (z : SkipLoop P t at stop i) where
  skip_here : i < stop → i < length t
  skip_here h = omega (arith, z.ahead, run_inside t i)

  module _ (e : ℕ) (h : i < stop) (f : e ≡ i + first_size P (run_of (decode (drop i t)))) where
    skip_step : SkipLoop P t at stop e × (i < e)
    skip_step =
        by_first (clusters_at P (drop i t))
        (λ q. absurd (omega (arith, z.ahead, size_none P (drop i t) q)))
        (λ g gs q.
        let k : e ≡ i + extent g = rw (first_size_law P (run_of (decode (drop i t))) g gs q) at f in
        let r = behind_size P t i g gs q in
        let u : stop - i - extent g ≡ stop - (i + extent g) = omega arith in
        let s : skipped P (stop - i) (clusters_at P (drop i t)) ≡ extent g + skipped P (stop - (i + extent g)) (clusters_at P (drop (i + extent g) t)) = rw (q, skip_first P (stop - i) g gs (omega arith), u, behind_clusters P t i g gs q) refl in (
          record {
            same = rw k (omega (arith, s, z.same));
            run = rw k (omega (arith, r, z.run));
            ahead = rw k (omega (arith, r, z.ahead));
          },
          omega (arith, k, cluster_some P (drop i t) g gs q),
        ))

  skip_done : stop ≤ i → SkippedTo P t at stop i
  skip_done h = let k : stop - i ≡ 0 = omega arith in record { same = omega (arith, z.same, skip_none P (stop - i) (clusters_at P (drop i t)) k); run = z.run }

-- clusters that are skipped whole
skip_over : (P : Profile) (gs hs : List (List Scalar)) (j : ℕ) → skipped P (extent (join_all gs) + j) (gs ++ hs) ≡ extent (join_all gs) + skipped P j hs
skip_over P [] hs j = let e : 0 + j ≡ j = omega arith in rw (join_nil, bytes_nil, e) (omega arith)
skip_over P (g ∷ gs) hs j =
    let r = skip_over P gs hs j in
    let n : ℕ = extent g + extent (join_all gs) + j in
    rw (join_length g gs) (cases (eqb n 0)
    (λ e.
    let z : n ≡ 0 = eqb-true n 0 e in
    omega (arith, skip_none P n (g ∷ (gs ++ hs)) z, skip_none P (extent (join_all gs) + j) (gs ++ hs) (omega arith), r))
    (λ e.
    let z : n ≢ 0 = eqb-false n 0 e in
    let a : n - extent g ≡ extent (join_all gs) + j = omega arith in
    omega (arith, rw a at (skip_first P n g (gs ++ hs) (omega arith)), r)))

module _ (p : code.Profile) (t : List ℕ) (at stop : ℕ) (z : SkipToReady t at stop) where
  skip_jump : at < stop → SkipLoop (profile_of p) t at stop (stop - 1)
  skip_jump h =
      let n : ℕ = stop - 1 - at in
      let k : at + n ≡ stop - 1 = omega arith in
      let b : Boundary (profile_of p) (drop at t) n = lone_boundary (profile_of p) (ascii_classes p) (drop at t) n (omega (arith, z.ahead, size_is (run_of (decode (drop at t))))) (rw (get_or-drop at t n 0, k) (z.begins h)) in
      let d : drop n (drop at t) ≡ drop (stop - 1) t = drop-drop n at t ∙ ap (λ (i : ℕ). drop i t) k in
      let c : clusters_at (profile_of p) (drop at t) ≡ b.before ++ clusters_at (profile_of p) (drop (stop - 1) t) = rw d at b.clusters in
      let r : size (run_of (decode (drop at t))) ≡ n + size (run_of (decode (drop (stop - 1) t))) = size_is (run_of (decode (drop at t))) ∙ rw (d, ← size_is (run_of (decode (drop (stop - 1) t)))) at b.run in
      let u : stop - at ≡ n + (stop - (stop - 1)) = omega arith in
      let s : skipped (profile_of p) (stop - at) (clusters_at (profile_of p) (drop at t)) ≡ n + skipped (profile_of p) (stop - (stop - 1)) (clusters_at (profile_of p) (drop (stop - 1) t)) =
      rw (c, u) (rw b.size at (skip_over (profile_of p) b.before (clusters_at (profile_of p) (drop (stop - 1) t)) (stop - (stop - 1)))) in
      record { same = omega (arith, s, k); run = omega (arith, r, k); ahead = omega (arith, r, k, z.ahead) }

  pub skip_inside : at < stop → stop - 1 < length t
  skip_inside h = skip_here (profile_of p) t at stop (stop - 1) (skip_jump h) (omega arith)

  pub skip_nothing : stop ≤ at → SkippedTo (profile_of p) t at stop at
  skip_nothing h = skip_done (profile_of p) t at stop at (skip_begin (profile_of p) t at stop z.ahead) h

  pub skip_last : (e : ℕ) → at < stop → e ≡ stop - 1 + first_size (profile_of p) (run_of (decode (drop (stop - 1) t))) → SkippedTo (profile_of p) t at stop e
  skip_last e h f =
      let w = skip_step (profile_of p) t at stop (stop - 1) (skip_jump h) e (omega arith) f in
      skip_done (profile_of p) t at stop e w.0 (omega (arith, w.1))

pub behind_skipped : (P : Profile) (t : List ℕ) (at : ℕ) (g : List Scalar) (gs : List (List Scalar)) → clusters_at P (drop at t) ≡ g ∷ gs → (end k : ℕ) → end ≡ at + extent g
    → end + skipped P (at + k - end) (clusters_at P (drop end t)) ≡ at + (extent g + skipped P (k - extent g) gs)
behind_skipped P t at g gs e end k f =
    let v : at + k - (at + extent g) ≡ k - extent g = omega arith in
    rw (f, v, behind_clusters P t at g gs e) (omega arith)
