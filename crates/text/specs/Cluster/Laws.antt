-- A text's clusters hold its scalars, and are found one after the other.
use Rattle.std.specs.Prelude.{◌≡◌, ℕ, suc, ◌+◌, Bool, not, cond, ◌&&◌, length, take, drop, T, eqb}
use Rattle.std.proofs.Math.Path.{refl, sym, ap, ap₂}
use Rattle.std.proofs.Common.{◌∙◌, true≢false, length-append, eqb→eq, eqb-true}
use Rattle.std.proofs.Math.Bool.{true, false, and-false}
use mathlib.Core.List.{List, [], ◌∷◌, ◌++◌, append_assoc}
use Rattle.text.specs.Tests.{and_T, is_true, or_false, or_none, true_T, cases}
use Rattle.text.specs.Utf8.{Scalar, bytes_of}
use Rattle.text.specs.Utf8.Laws.{bytes_of_append}
use Rattle.text.specs.Class.{Profile, among, number}
use Rattle.text.specs.Class.Laws.{breaks, extends}
use Rattle.text.specs.Cluster.{Context, start, after, joined, class_of, context, joins, joins_next, add_to_cluster, clusters_after, clusters, join_all}

pub join_nil : join_all [] ≡ []
unfolding join_all
join_nil = refl

pub join_cons : (g : List Scalar) (gs : List (List Scalar)) → join_all (g ∷ gs) ≡ g ++ join_all gs
unfolding join_all
join_cons g gs = refl

-- their bytes
pub join_bytes : (g : List Scalar) (gs : List (List Scalar)) → bytes_of (join_all (g ∷ gs)) ≡ bytes_of g ++ bytes_of (join_all gs)
join_bytes g gs = ap bytes_of (join_cons g gs) ∙ bytes_of_append g (join_all gs)

pub join_length : (g : List Scalar) (gs : List (List Scalar)) → length (bytes_of (join_all (g ∷ gs))) ≡ length (bytes_of g) + length (bytes_of (join_all gs))
join_length g gs = ap length (join_bytes g gs) ∙ length-append (bytes_of g) (bytes_of (join_all gs))

pub join_append : (gs hs : List (List Scalar)) → bytes_of (join_all (gs ++ hs)) ≡ bytes_of (join_all gs) ++ bytes_of (join_all hs)
unfolding join_all bytes_of
join_append [] hs = refl
join_append (g ∷ gs) hs =
    join_bytes g (gs ++ hs) ∙ ap (λ (l : List ℕ). bytes_of g ++ l) (join_append gs hs)
    ∙ sym (ap (λ (l : List ℕ). l ++ bytes_of (join_all hs)) (join_bytes g gs) ∙ append_assoc (bytes_of g) (bytes_of (join_all gs)) (bytes_of (join_all hs)))

module _ (P : Profile) where
  add_to_cluster_all : (w : Bool) (c : Scalar) (gs : List (List Scalar)) → join_all (add_to_cluster P w c gs) ≡ c ∷ join_all gs
  unfolding join_all add_to_cluster
  add_to_cluster_all false c gs = refl
  add_to_cluster_all true c [] = refl
  add_to_cluster_all true c (g ∷ gs) = refl

  clusters_after_all : (before s : List Scalar) → join_all (clusters_after P before s) ≡ s
  unfolding clusters_after join_all
  clusters_after_all before [] = refl
  clusters_after_all before (c ∷ s) =
      add_to_cluster_all (joins_next P (c ∷ before) s) c (clusters_after P (c ∷ before) s) ∙ ap (λ (l : List Scalar). c ∷ l) (clusters_after_all (c ∷ before) s)

  pub clusters_all : (s : List Scalar) → join_all (clusters P s) ≡ s
  unfolding clusters
  clusters_all s = clusters_after_all [] s

  pub clusters_nil : clusters P [] ≡ []
  unfolding clusters clusters_after
  clusters_nil = refl

  pub clusters_none : (s : List Scalar) → clusters P s ≡ [] → s ≡ []
  unfolding join_all
  clusters_none s e = sym (clusters_all s) ∙ ap join_all e

-- ---- one after the other

-- GB12, GB13
joined_ri : (p : ℕ) (k : Context) (c : ℕ) → p ≡ 10 → T k.odd → c ≡ 10 → joined p k c ≡ true
unfolding joined among number
joined_ri p k c e o f = rw (e, f, is_true k.odd o, and-false k.emoji_zwj)

-- the parity behind a boundary
parity : (p : ℕ) (k : Context) (c : ℕ) → joined p (after k p) c ≡ false → eqb c 10 && not (after k p).odd ≡ (eqb c 10 && true)
unfolding after among number
parity p k c e =
    cases (eqb c 10)
    (λ r. cases (eqb p 10 && not k.odd)
    (λ o.
    let q = and_T (eqb p 10) (not k.odd) (true_T o) in
    absurd (true≢false (sym (joined_ri p (after k p) c (eqb→eq p 10 q.0) (true_T o) (eqb→eq c 10 (true_T r))) ∙ e)))
    (λ o. rw (r, o)))
    (λ r. rw r)

-- Extend and ZWJ join all but CR, LF and Control, behind which the context is that of a text's start
mark_joins : (p : ℕ) (k : Context) (c : ℕ) → extends c ≡ true → joined p k c ≡ false → breaks p ≡ true
unfolding joined among number
mark_joins p k c m e = cases (breaks p) (λ h. h) (λ h. absurd (true≢false (sym (joins_at h) ∙ e)))
  where
    joins_at : breaks p ≡ false → joined p k c ≡ true
    joins_at h = cases (eqb c 3) (λ t. rw (eqb-true c 3 t) (simp (h, and-false))) (λ t. rw (eqb-true c 4 (rw t at m)) (simp (h, and-false)))

cleared : (p : ℕ) (k : Context) → breaks p ≡ true → after k p ≡ start
unfolding after among number
cleared p k h =
    cases (eqb p 2)
    (λ t. rw (eqb-true p 2 t) (simp and-false))
    (λ t. cases (eqb p 0) (λ u. rw (eqb-true p 0 u) (simp and-false)) (λ u. rw (eqb-true p 1 (rw (t, u) at h)) (simp and-false)))

-- what is neither starts anew but for the parity
unmarked : (k : Context) (c : ℕ) → extends c ≡ false → after k c ≡ record { odd = eqb c 10 && not k.odd; emoji = eqb c 12; emoji_zwj = false }
unfolding after among number
unmarked k c m = let q = or_false (eqb c 3) (eqb c 4) m in simp (q.0, q.1, and-false, or_none)

-- behind a boundary nothing of the context before counts
fresh : (p : ℕ) (k : Context) (c : ℕ) → joined p (after k p) c ≡ false → after (after k p) c ≡ after start c
fresh p k c e =
    cases (extends c)
    (λ m. ap (λ (w : Context). after w c) (cleared p k (mark_joins p (after k p) c m e)))
    (λ m. unmarked (after k p) c m ∙ ap (λ (o : Bool). record { odd = o; emoji = eqb c 12; emoji_zwj = false }) (parity p k c e) ∙ sym (unmarked start c m))

module _ (P : Profile) where
  after_boundary : (before : List Scalar) (c : Scalar) → joins P before c ≡ false → context P (c ∷ before) ≡ context P (c ∷ [])
  unfolding joins context
  after_boundary [] c e = refl
  after_boundary (p ∷ ps) c e = fresh (class_of P p) (context P ps) (class_of P c) e

  -- clusters depend on the context alone
  pub same_after : (s : List Scalar) (c : Scalar) (a b : List Scalar) → context P (c ∷ a) ≡ context P (c ∷ b) → clusters_after P a (c ∷ s) ≡ clusters_after P b (c ∷ s)
  unfolding clusters_after
  same_after [] c a b e = refl
  same_after (d ∷ s) c a b e =
      ap₂ (λ (w : Bool) (gs : List (List Scalar)). add_to_cluster P w c gs) (ap (λ (k : Context). joined (class_of P c) k (class_of P d)) e)
      (same_after s d (c ∷ a) (c ∷ b) (ap (λ (k : Context). after k (class_of P d)) e))

  -- behind a boundary the clusters are those of the text that begins there
  pub restart : (before : List Scalar) (c : Scalar) (s : List Scalar) → joins P before c ≡ false → clusters_after P before (c ∷ s) ≡ clusters P (c ∷ s)
  unfolding clusters
  restart before c s e = same_after s c before [] (after_boundary before c e)

  -- how many scalars of s belong to the cluster that `before` ends with
  unfoldable pub further : List Scalar → List Scalar → ℕ
  further before [] = 0
  further before (d ∷ s) = let n : ℕ = suc (further (d ∷ before) s) in cond (joins P before d) n 0

  -- the first cluster, and the clusters of the rest
  first_after : (before : List Scalar) (c : Scalar) (s : List Scalar)
      → clusters_after P before (c ∷ s) ≡ (c ∷ take (further (c ∷ before) s) s) ∷ clusters P (drop (further (c ∷ before) s) s)
  unfolding clusters_after further add_to_cluster clusters joins_next
  first_after before c [] = refl
  first_after before c (d ∷ s) =
      cases (joins P (c ∷ before) d)
      (λ e. rw e (ap (add_to_cluster P true c) (first_after (c ∷ before) d s)))
      (λ e. rw e (ap (λ (gs : List (List Scalar)). (c ∷ []) ∷ gs) (restart (c ∷ before) d s e)))

  pub clusters_first : (c : Scalar) (s : List Scalar) → clusters P (c ∷ s) ≡ (c ∷ take (further (c ∷ []) s) s) ∷ clusters P (drop (further (c ∷ []) s) s)
  unfolding clusters
  clusters_first c s = first_after [] c s

  -- a scalar that no rule joins the next one to is a cluster by itself
  pub clusters_one : (c : Scalar) → clusters P (c ∷ []) ≡ (c ∷ []) ∷ []
  unfolding clusters clusters_after joins_next add_to_cluster
  clusters_one c = refl

  pub clusters_apart : (c d : Scalar) (s : List Scalar) → joins P (c ∷ []) d ≡ false → clusters P (c ∷ d ∷ s) ≡ (c ∷ []) ∷ clusters P (d ∷ s)
  unfolding further
  clusters_apart c d s e = clusters_first c (d ∷ s) ∙ rw e refl
