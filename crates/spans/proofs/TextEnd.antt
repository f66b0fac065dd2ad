-- Where the text ends that begins at a place: the loops over its clusters and over its parts.
use mathlib.Core.Path.{◌≡◌, refl, sym, ap, ap₂, ◌∙◌}
use Prim.Native.Nat.{ℕ, ◌+◌, ◌-◌, ◌≤◌, ◌<◌}
use native.Mathlib.Nat.{add-zero}
use native.Mathlib.Omega.{arith}
use mathlib.Core.Bool.{Bool, true, false, true≢false, not, ◌&&◌}
use mathlib.Core.List.{List, [], ◌∷◌}
use mathlib.Core.Logic.{◌≢◌}
use lib.ListN.{length, drop, get_or, drop_of_length-le, get_or-eq_default}
use lib.Seq.{drop-drop, get_or-drop}
use borrow.Author.Tests.{ne_eqb, ltb-true}
use lib.Dec.{eqb, ltb, nltb→le}
use Rattle.text.specs.Tests.{cases, and_T, is_true, true_T}
use Rattle.text.specs.Utf8.{Scalar, ascii}
use Rattle.text.specs.Class.{Profile}
use Rattle.text.specs.Class.Ascii.{printable_range}
use Rattle.text.specs.Width.{width_of}
use Rattle.text.specs.Cluster.{clusters}
use Rattle.text.specs.Cluster.Laws.{clusters_nil}
use Rattle.text.specs.Cluster.Ascii.{printable_width}
use Rattle.text.specs.Cluster.Walk.{size_is, cluster_some}
use Rattle.text.specs.Class.Code.{profile_of, printable}
use Rattle.text.specs.Utf8.Code.{size}
use Rattle.text.specs.Segmentation.{first_of, NextCluster, NextClusterReady}
use Rattle.text.specs.Segmentation.Laws.{FirstCluster}
use Rattle.text.specs.Utf8.Code.Laws.{size_cons, size_nil}
use Rattle.text.specs.Class.Profile01.{ascii_classes}
use Rattle.text.specs.Scalar.{packed_at, scalar_here, number_in}
use Rattle.text.specs.Scalar.Laws.{some_here, number_here, first_some, packed_inside, packed_none}
use Rattle.text.specs.TextParts.{text_at}
use Rattle.text.specs.TextParts.Laws.{ascii_at, first_there}
use Rattle.text.specs.declared.segmentation.ClusterStep.{ClusterStep}
use Rattle.text.specs.declared.class.Profile as profile
use Rattle.text.specs.declared.scalar.Scalar as code
use Rattle.std.specs.Prelude.{Option, Some, None}
use Rattle.spans.specs.Spans.FirstSpan.{extent, plain_cluster, plain_size}
use Rattle.spans.specs.Reader.{c0_not_cr, clusters_at, PlainTo, clusters_size, printable_pair, ClustersTo}
use Rattle.spans.proofs.ClusterBytes.{plain_width}
use Rattle.spans.proofs.PlainClusters.{control_size, plain_here, plain_on}
use Rattle.spans.proofs.FirstClusters.{no_clusters, behind_clusters}

-- ---- `clusters_end`

-- a scalar that was read is one that stands there
module _ (P : Profile) (t : List ℕ) (p : ℕ) (u : Option code.Scalar) (e : u ≡ scalar_here P t p) where
  number_none : u ≡ None → number_in u ≡ 0
  unfolding number_in
  number_none z = rw z refl

  number_some : (w : code.Scalar) → u ≡ Some w → number_in u ≢ 0
  unfolding number_in
  number_some w some = rw some (some_here P t p u e w some).1

-- plain clusters from `at` to p, and the scalar u there
pub record ClustersLoop (P : Profile) (t : List ℕ) (at p : ℕ) (u : Option code.Scalar) : Type 0 where
  pub to : PlainTo P t at p
  pub scalar : u ≡ scalar_here P t p
  pub work : p + clusters_size P false (drop p t) (clusters_at P (drop p t)) ≡ at + clusters_size P false (drop at t) (clusters_at P (drop at t))

pub clusters_begin : (P : Profile) (t : List ℕ) (at : ℕ) (u : Option code.Scalar) → at < length t → u ≡ scalar_here P t at → ClustersLoop P t at at u
clusters_begin P t at u h e = record { to = plain_here P t at (omega (arith, h)); scalar = e; work = refl }

-- a printable byte begins a cluster that has a width
printable_at : (t : List ℕ) (p : ℕ) → printable (get_or t p 0) ≡ true → text_at t p ≡ ascii (get_or t p 0) ∷ text_at t (p + 1)
printable_at t p e =
    let w = printable_range (get_or t p 0) e in
    let h : p < length t = cases (ltb p (length t)) (λ l. ltb-true _ _ l) (λ l. absurd (omega (arith, w.0, get_or-eq_default t 0 (nltb→le p (length t) (rw l tt))))) in
    ascii_at t p (get_or t p 0) h refl (omega (arith, w.1))

printable_wide : (v : profile.Profile) (t : List ℕ) (p : ℕ) → printable (get_or t p 0) ≡ true → 1 ≤ width_of (profile_of v) (first_of (clusters (profile_of v) (text_at t p)))
printable_wide v t p e = rw (printable_at t p e) (printable_width (profile_of v) (ascii_classes v) (get_or t p 0) (text_at t (p + 1)) e)

-- clusters behind others, by the bytes there
behind_same : (P : Profile) (s : List ℕ) (gs : List (List Scalar)) → printable_pair s ≡ false → clusters_size P true s gs ≡ clusters_size P false s gs
unfolding clusters_size
behind_same P s [] k = refl
behind_same P s (g ∷ gs) k = rw k refl

behind_none : (P : Profile) (s : List ℕ) (gs : List (List Scalar)) → printable_pair s ≡ true → clusters_size P true s gs ≡ 0
unfolding clusters_size
behind_none P s [] k = refl
behind_none P s (g ∷ gs) k = rw k refl

module _ (v : profile.Profile) (t : List ℕ) (at p : ℕ) (u : Option code.Scalar) (z : ClustersLoop (profile_of v) t at p u) where
  read : number_in u ≡ packed_at (profile_of v) t p
  read = number_here (profile_of v) t p u z.scalar

  pub clusters_past : u ≡ None → ClustersTo (profile_of v) t at p
  unfolding plain_size clusters_size
  clusters_past e =
      let m : text_at t p ≡ [] = packed_none (profile_of v) t p (number_in u) read (number_none (profile_of v) t p u z.scalar e) in
      let n : clusters_at (profile_of v) (drop p t) ≡ [] = ap (clusters (profile_of v)) m ∙ clusters_nil (profile_of v) in
      record {
        is = omega (arith, z.work, ap (clusters_size (profile_of v) false (drop p t)) n);
        to = z.to;
        ends = λ k. ap (plain_size (profile_of v)) n;
        further = λ k. absurd (omega (arith, ap size (sym (printable_at t p k) ∙ m), size_nil, size_cons (ascii (get_or t p 0)) (text_at t (p + 1))));
      }

  module _ (w : code.Scalar) (some : u ≡ Some w) where
    not_zero : number_in u ≢ 0
    not_zero = number_some (profile_of v) t p u z.scalar w some

    pub clusters_ready : NextClusterReady (profile_of v) t p u
    clusters_ready = record { inside = packed_inside (profile_of v) t p (number_in u) read not_zero; scalar = z.scalar }

    -- the cluster there, and those behind it
    there : FirstCluster (profile_of v) (text_at t p)
    there = first_there (profile_of v) (text_at t p) (λ e. omega (arith, e, first_some (profile_of v) t p (number_in u) read not_zero))

    first : List Scalar
    first = first_of (clusters_at (profile_of v) (drop p t))

    behind : List (List Scalar)
    behind = clusters (profile_of v) there.rest

    is : clusters_at (profile_of v) (drop p t) ≡ first ∷ behind
    unfolding first behind
    is = there.clusters

    module _ (r : ClusterStep) (n : NextCluster (profile_of v) t p r) where
      end_is : r.part.end.0 ≡ p + extent first
      unfolding first
      end_is = n.part.end ∙ ap (λ (k : ℕ). p + k) (size_is first)

      plain_is : plain_cluster (profile_of v) first ≡ not (eqb r.part.width.0 0)
      unfolding first
      plain_is = plain_width v (drop p t) first behind is ∙ ap (λ (k : ℕ). not (eqb k 0)) (sym n.part.width)

      pub no_text : r.part.width.0 ≡ 0 → plain_size (profile_of v) (clusters_at (profile_of v) (drop p t)) ≡ 0
      unfolding plain_size
      no_text e = let b : plain_cluster (profile_of v) first ≡ false = plain_is ∙ rw e refl in rw (is, b) refl

      pub clusters_stop : r.part.width.0 ≡ 0 → ClustersTo (profile_of v) t at p
      unfolding clusters_size
      clusters_stop e =
          let b : plain_cluster (profile_of v) first ≡ false = plain_is ∙ rw e refl in
          let m : clusters_size (profile_of v) false (drop p t) (clusters_at (profile_of v) (drop p t)) ≡ 0 = rw (is, b) refl in
          record {
            is = omega (arith, z.work, m);
            to = z.to;
            ends = λ k. no_text e;
            further = λ k. absurd (omega (arith, printable_wide v t p k, n.part.width, e));
          }

      pub clusters_less : length t - r.part.end.0 < length t - p
      clusters_less = omega (arith, end_is, cluster_some (profile_of v) (drop p t) first behind is, clusters_ready.inside)

      module _ (wide : r.part.width.0 ≢ 0) where
        plain_here_is : plain_cluster (profile_of v) first ≡ true
        plain_here_is = plain_is ∙ rw (ne_eqb r.part.width.0 0 wide) refl

        others : clusters_at (profile_of v) (drop r.part.end.0 t) ≡ behind
        others = ap (λ (k : ℕ). clusters_at (profile_of v) (drop k t)) end_is ∙ behind_clusters (profile_of v) t p first behind is

        pub clusters_on : PlainTo (profile_of v) t at r.part.end.0
        unfolding plain_size
        clusters_on =
            let m : plain_size (profile_of v) (clusters_at (profile_of v) (drop p t)) ≡ extent first + plain_size (profile_of v) behind = rw (is, plain_here_is) refl in
            plain_on (profile_of v) t at p r.part.end.0 z.to (record {
              same = rw others (omega (arith, end_is, m));
              up = omega (arith, end_is);
              low = n.part.inside;
            })

        work_on : r.part.end.0 + clusters_size (profile_of v) true (drop r.part.end.0 t) behind ≡ at + clusters_size (profile_of v) false (drop at t) (clusters_at (profile_of v) (drop at t))
        unfolding clusters_size
        work_on =
            let d : drop (extent first) (drop p t) ≡ drop r.part.end.0 t = drop-drop (extent first) p t ∙ ap (λ (k : ℕ). drop k t) (sym end_is) in
            let m : clusters_size (profile_of v) false (drop p t) (clusters_at (profile_of v) (drop p t)) ≡ extent first + clusters_size (profile_of v) true (drop r.part.end.0 t) behind = rw (is, plain_here_is, d) refl in
            omega (arith, end_is, m, z.work)

        module _ (a b : ℕ) (x : Bool) (e : a ≡ get_or t r.part.end.0 0) (g : b ≡ get_or t (r.part.end.0 + 1) 0) (f : x ≡ printable a) where
          pair_is : printable_pair (drop r.part.end.0 t) ≡ (x && ltb b 0x80)
          pair_is =
              let h : get_or (drop r.part.end.0 t) 0 0 ≡ a = get_or-drop r.part.end.0 t 0 0 ∙ ap (λ (k : ℕ). get_or t k 0) (add-zero r.part.end.0) ∙ sym e in
              ap₂ (λ (k l : ℕ). printable k && ltb l 0x80) h (get_or-drop r.part.end.0 t 1 0 ∙ sym g) ∙ ap (λ (k : Bool). k && ltb b 0x80) (sym f)

          pub clusters_more : (x && ltb b 0x80) ≡ false → ClustersLoop (profile_of v) t at r.part.end.0 r.next
          clusters_more q = record { to = clusters_on; scalar = n.next; work = rw (others, ← behind_same (profile_of v) (drop r.part.end.0 t) behind (pair_is ∙ q)) work_on }

          pub clusters_printable : (x && ltb b 0x80) ≡ true → ClustersTo (profile_of v) t at r.part.end.0
          clusters_printable q =
              let k : printable (get_or t r.part.end.0 0) ≡ true = rw (← e, ← f) (is_true x (and_T x (ltb b 0x80) (true_T q)).0) in
              record {
                is = omega (arith, work_on, behind_none (profile_of v) (drop r.part.end.0 t) behind (pair_is ∙ q));
                to = clusters_on;
                ends = λ y. absurd (true≢false (sym k ∙ y));
                further = λ y. omega (arith, clusters_less, z.to.up, n.part.inside);
              }

-- ---- `text_end`

pub text_past : (P : Profile) (t : List ℕ) (at i : ℕ) → PlainTo P t at i → length t ≤ i → i ≡ at + plain_size P (clusters_at P (drop at t))
unfolding plain_size
text_past P t at i z h =
    let k : plain_size P (clusters_at P (drop i t)) ≡ 0 = rw (drop_of_length-le t h, no_clusters P) in
    omega (arith, z.same)

-- ---- controls

c0_size : (p : profile.Profile) (t : List ℕ) (at a : ℕ) (x : Bool) → a ≡ get_or t at 0 → x ≡ c0_not_cr a → x ≡ true → plain_size (profile_of p) (clusters_at (profile_of p) (drop at t)) ≡ 0
unfolding plain_size
c0_size p t at a x e f q =
    let c : c0_not_cr (get_or t at 0) ≡ true = rw e at (sym f ∙ q) in
    cases (ltb at (length t))
    (λ h. control_size p t at (ltb-true _ _ h) c)
    (λ h. let k : length t ≤ at = nltb→le _ _ (rw h tt) in rw (drop_of_length-le t k, no_clusters (profile_of p)) refl)

-- past the end stands a byte 0, which is one of them
pub other_here : (t : List ℕ) (at a : ℕ) (x : Bool) → a ≡ get_or t at 0 → x ≡ c0_not_cr a → x ≡ false → at < length t
other_here t at a x e f q =
    cases (ltb at (length t))
    (λ h. ltb-true _ _ h)
    (λ h.
    let k : length t ≤ at = nltb→le _ _ (rw h tt) in
    let z : a ≡ 0 = e ∙ get_or-eq_default t 0 k in
    absurd (true≢false (rw z at (sym f ∙ q))))

module _ (p : profile.Profile) (t : List ℕ) (at i a : ℕ) (x : PlainTo (profile_of p) t at i) (y : PlainTo (profile_of p) t i a) where
  pub text_control : (c : ℕ) (e : Bool) → c ≡ get_or t a 0 → e ≡ c0_not_cr c → e ≡ true → a ≡ at + plain_size (profile_of p) (clusters_at (profile_of p) (drop at t))
  text_control c e f g h = omega (arith, (plain_on (profile_of p) t at i a x y).same, c0_size p t a c e f g h)

  module _ (b : ℕ) (w : PlainTo (profile_of p) t a b) where
    text_to : PlainTo (profile_of p) t at b
    text_to = plain_on (profile_of p) t at a b (plain_on (profile_of p) t at i a x y) w

    pub text_control_behind : (c : ℕ) (e : Bool) → c ≡ get_or t b 0 → e ≡ c0_not_cr c → e ≡ true → b ≡ at + plain_size (profile_of p) (clusters_at (profile_of p) (drop at t))
    text_control_behind c e f g h = omega (arith, text_to.same, c0_size p t b c e f g h)

    module _ (end c : ℕ) (z : ClustersTo (profile_of p) t b end) (e : c ≡ get_or t end 0) (k : Bool) (f : k ≡ printable c) where
      pub text_more : k ≡ true → PlainTo (profile_of p) t at end
      text_more h = plain_on (profile_of p) t at b end text_to z.to

      pub text_falls : k ≡ true → length t - end < length t - i
      text_falls h = omega (arith, y.up, w.up, z.further (rw e at (sym f ∙ h)), z.to.low)

      pub text_stops : k ≡ false → end ≡ at + plain_size (profile_of p) (clusters_at (profile_of p) (drop at t))
      text_stops h = omega (arith, (plain_on (profile_of p) t at b end text_to z.to).same, z.ends (rw e at (sym f ∙ h)))
