-- The clusters of a line's run, one after the other.
use Rattle.std.proofs.Math.Path.{◌≡◌, refl, sym, ap}
use Rattle.std.proofs.Common.{◌∙◌, arith, length-append, take-append-drop}
use Prim.Native.Nat.{ℕ, ◌+◌, ◌-◌, ◌≤◌}
use mathlib.Core.List.{List, [], ◌∷◌, ◌++◌}
use Rattle.std.specs.Prelude.{length}
use Rattle.std.proofs.Math.ListN.{take, drop}
use Rattle.text.specs.Utf8.{Scalar, decode, run_of, bytes_of}
use Rattle.text.specs.Utf8.Runs.{run_valid, run_rest, front_bytes, front_run, rest_bytes, run_length}
use Rattle.text.specs.Utf8.Valid.{Valid}
use Rattle.text.specs.Each.{All, all_nil, all_cons, all_split}
use Rattle.text.specs.Segmentation.{first_of, first_size}
use Rattle.text.specs.Utf8.Code.{size}
use Rattle.text.specs.Class.{Profile}
use Rattle.text.specs.Cluster.{clusters, clusters_after, join_all}
use Rattle.text.specs.Cluster.Laws.{further, clusters_first, clusters_all}

-- the number of a text's bytes
pub size_is : (s : List Scalar) → size s ≡ length (bytes_of s)
unfolding size bytes_of
size_is [] = refl
size_is (c ∷ s) = ap (λ (n : ℕ). length c.bytes + n) (size_is s) ∙ sym (length-append c.bytes (bytes_of s))

valid_some : (c : Scalar) (s : List Scalar) → All Valid (c ∷ s) → 1 ≤ length (bytes_of (c ∷ s))
unfolding bytes_of
valid_some c s (all_cons v a) = simp length-append (omega (arith, v.some))

module _ (P : Profile) where
  -- the text is its first cluster and the text of the others, and the others are that text's clusters
  pub record First (s g : List Scalar) (gs : List (List Scalar)) : Type 0 where
    pub rest : List Scalar
    pub text : s ≡ g ++ rest
    pub head : Scalar
    pub more : List Scalar
    pub some : g ≡ head ∷ more
    pub others : clusters P rest ≡ gs

  pub first : (s : List Scalar) (g : List Scalar) (gs : List (List Scalar)) → clusters P s ≡ g ∷ gs → First s g gs
  unfolding clusters clusters_after
  first [] g gs e = absurd (let z : ◌≡◌ {A = ℕ} 0 1 = cc in omega arith)
  first (c ∷ s) g gs e =
      let k : ℕ = further P (c ∷ []) s in
      let f : (c ∷ take k s) ∷ clusters P (drop k s) ≡ g ∷ gs = sym (clusters_first P c s) ∙ e in
      let h : c ∷ take k s ≡ g = cc in
      record {
        rest = drop k s;
        text = ap (λ (l : List Scalar). c ∷ l) (sym (take-append-drop k s)) ∙ ap (λ (l : List Scalar). l ++ drop k s) h;
        head = c;
        more = take k s;
        some = sym h;
        others = cc;
      }

  -- each cluster of a valid text has bytes
  pub clusters_some : (gs : List (List Scalar)) → (s : List Scalar) → clusters P s ≡ gs → All Valid s → All (λ (g : List Scalar). 1 ≤ length (bytes_of g)) gs
  clusters_some [] = λ s e a. all_nil
  clusters_some (g ∷ gs) = λ s e a.
      let f = first s g gs e in
      let v = all_split g (rw f.text at a) in
      let k : 1 ≤ length (bytes_of g) = rw f.some (valid_some f.head f.more (rw f.some at v.0)) in
      all_cons k (clusters_some gs f.rest f.others v.1)

  -- behind the first cluster of a line's run stand the others
  pub next_clusters : (s : List ℕ) (g : List Scalar) (gs : List (List Scalar)) → clusters P (run_of (decode s)) ≡ g ∷ gs → clusters P (run_of (decode (drop (length (bytes_of g)) s))) ≡ gs
  next_clusters s g gs e = let f = first (run_of (decode s)) g gs e in ap (clusters P) (run_rest s g f.rest f.text) ∙ f.others

  pub first_size_law : (s g : List Scalar) (gs : List (List Scalar)) → clusters P s ≡ g ∷ gs → first_size P s ≡ length (bytes_of g)
  unfolding first_size first_of
  first_size_law s g gs e = rw e (size_is g)

  pub first_is : (s : List Scalar) → first_size P s ≡ size (first_of (clusters P s))
  unfolding first_size
  first_is s = refl

  pub first_none : (s : List Scalar) → clusters P s ≡ [] → first_size P s ≡ 0
  unfolding first_size first_of size
  first_none s e = rw e

  -- the first cluster's bytes are the line's first, it is the run of these alone, and it has some
  module _ (s : List ℕ) (g : List Scalar) (gs : List (List Scalar)) (e : clusters P (run_of (decode s)) ≡ g ∷ gs) where
    pub cluster_bytes : take (length (bytes_of g)) s ≡ bytes_of g
    cluster_bytes = let f = first (run_of (decode s)) g gs e in front_bytes s g f.rest f.text

    pub cluster_run : run_of (decode (take (length (bytes_of g)) s)) ≡ g
    cluster_run = let f = first (run_of (decode s)) g gs e in front_run s g f.rest f.text

    pub cluster_some : 1 ≤ length (bytes_of g)
    cluster_some =
        let f = first (run_of (decode s)) g gs e in
        let v : All Valid g = (all_split g (rw f.text at (run_valid s))).0 in
        rw f.some (valid_some f.head f.more (rw f.some at v))

    -- the bytes up to the run's end hold the others
    pub cluster_behind : (n : ℕ) → n ≡ length (bytes_of (run_of (decode s))) - length (bytes_of g) → bytes_of (join_all gs) ≡ take n (drop (length (bytes_of g)) s)
    cluster_behind n q =
        let f = first (run_of (decode s)) g gs e in
        ap bytes_of (ap join_all (sym f.others) ∙ clusters_all P f.rest) ∙ sym (rest_bytes s g f.rest f.text n q)

    pub cluster_length : length (bytes_of (run_of (decode s))) ≡ length (bytes_of g) + length (bytes_of (run_of (decode (drop (length (bytes_of g)) s))))
    cluster_length = let f = first (run_of (decode s)) g gs e in run_length s g f.rest f.text
