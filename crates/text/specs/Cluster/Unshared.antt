-- CR, LF, Control and other share a cluster with scalars of no width alone.
use Rattle.std.specs.Prelude.{◌≡◌, refl, ℕ, Bool, true, not, ◌||◌, eqb}
use Rattle.std.proofs.Common.{ap, sym, subst, ◌∙◌, arith, true≢false}
use Rattle.std.proofs.Math.Bool.{or-true}
use mathlib.Core.List.{List, [], ◌∷◌, ◌++◌}
use borrow.Author.Tests.{eqb-true, eqb-false}
use Rattle.text.specs.Tests.{cases, every, true_T}
use Rattle.text.specs.Each.{All}
use Rattle.text.specs.Utf8.{Scalar}
use Rattle.text.specs.Class.{Class, Profile, among, number}
use Rattle.text.specs.Class.Laws.{ZeroWidthClasses, alone_or_lf, breaks_or_extends, every_class}
use Rattle.text.specs.Width.{width_of}
use Rattle.text.specs.Width.Laws.{width_append, width_cons, width_nil}
use Rattle.text.specs.Cluster.{Context, after, class_of, clusters, context, joined, joins, start}
use Rattle.text.specs.Cluster.Appended.{restarted}
use Rattle.text.specs.Cluster.Joined.{Joined, clusters_joined}
use Rattle.text.specs.Segmentation.Boundaries.{alone_numbers, apart_numbers}

-- behind them, Extend or ZWJ, in the context of a text's start, a cluster goes on with LF, Extend and ZWJ: a test of every two classes
joined_extends : (a b : Class) → alone_or_lf (number a) || breaks_or_extends (number a) ≡ true → joined (number a) start (number b) ≡ true → breaks_or_extends (number b) ≡ true
unfolding among number joined every
joined_extends a b e j = rw (e, j) at (every_class (test (number a)) (true_T (every_class (λ n. every (test n) 0 13) tt a)) b)
  where
    test : ℕ → ℕ → Bool
    test m n = not (alone_or_lf m || breaks_or_extends m) || (not (joined m start n) || breaks_or_extends n)

-- which they leave as it is
starts : (n : ℕ) → breaks_or_extends n ≡ true → after start n ≡ start
unfolding among number after
starts n e =
    cases (eqb n 0) (λ i. rw (eqb-true n 0 i))
    (λ i. cases (eqb n 1) (λ j. rw (eqb-true n 1 j))
    (λ j. cases (eqb n 2) (λ k. rw (eqb-true n 2 k))
    (λ k. cases (eqb n 3) (λ l. rw (eqb-true n 3 l))
    (λ l. rw (eqb-true n 4 (rw (i, j, k, l) at e))))))

module _ (P : Profile) (z : ZeroWidthClasses P) where
  rest_flat : (s : List Scalar) (c : Scalar) (before : List Scalar) → alone_or_lf (class_of P c) || breaks_or_extends (class_of P c) ≡ true → context P (c ∷ before) ≡ start → Joined P (c ∷ before) s → width_of P s ≡ 0
  unfolding joins context Joined
  rest_flat [] c before e k t = width_nil P
  rest_flat (d ∷ s) c before e k t =
      let f = joined_extends (P.class c.code) (P.class d.code) e (subst (λ (w : Context). joined (class_of P c) w (class_of P d) ≡ true) k t.0) in
      rw (width_cons P d s, z.none d.code f, rest_flat s d (c ∷ before) (rw (f, or-true (alone_or_lf (class_of P d)))) (ap (λ (w : Context). after w (class_of P d)) k ∙ starts (class_of P d) f) t.1)

  first_start : (c : Scalar) → alone_or_lf (class_of P c) ≡ true → context P (c ∷ []) ≡ start
  unfolding context
  first_start c e = restarted start (class_of P c) e

  -- one of them joins CR alone, and CR nothing
  first_cr : (x y : List Scalar) (d c : Scalar) (before : List Scalar) → alone_or_lf (class_of P d) ≡ true → Joined P (c ∷ before) (x ++ (d ∷ y)) → class_of P c ≡ 0
  unfolding joins Joined among number
  first_cr [] y d c before k t =
      cases (eqb (class_of P c) 0) (λ e. eqb-true _ 0 e)
      (λ e. absurd (true≢false (sym t.0 ∙ apart_numbers (class_of P c) (context P (c ∷ before)) (class_of P d) (eqb-false _ 0 e) k)))
  first_cr (f ∷ x) y d c before k t =
      absurd (true≢false (sym t.0 ∙ alone_numbers (class_of P c) (context P (c ∷ before)) (class_of P f) (rw (first_cr x y d f (c ∷ before) k t.1))))

  -- the other scalars of its cluster have no width
  abbrev Unshared : List Scalar → Type 0
  Unshared g = (x y : List Scalar) (d : Scalar) → g ≡ x ++ (d ∷ y) → alone_or_lf (class_of P d) ≡ true → width_of P (x ++ y) ≡ 0

  joined_unshared : (c : Scalar) (s : List Scalar) → Joined P (c ∷ []) s → Unshared (c ∷ s)
  unfolding among number
  joined_unshared c s t [] y d e k = let i : c ≡ d = cc in let j : s ≡ y = cc in rw (← j) (rest_flat s c [] (rw (i, k)) (first_start c (rw (i, k))) t)
  joined_unshared c s t (b ∷ x) y d e k =
      let i : c ≡ b = cc in
      let j : s ≡ x ++ (d ∷ y) = cc in
      let n = first_cr x y d c [] k (rw j at t) in
      let w : width_of P (x ++ (d ∷ y)) ≡ 0 = rw j at (rest_flat s c [] (rw n) (first_start c (rw n refl)) t) in
      rw (← i) (omega (arith, w, width_cons P c (x ++ y), z.none c.code (rw n), width_append P x (d ∷ y), width_append P x y, width_cons P d y))

  pub clusters_unshared : (s : List Scalar) → All Unshared (clusters P s)
  clusters_unshared = clusters_joined P Unshared joined_unshared
