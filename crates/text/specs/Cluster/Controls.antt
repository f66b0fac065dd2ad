-- GB4 and GB5 break at all of a cluster's scalars or at none; so a text whose clusters all have a width holds no control.
use Rattle.std.specs.Prelude.{◌≡◌, refl, ℕ, ◌≤◌, Bool, true, false, cond, ◌&&◌, ◌||◌, ◌⊎◌, eqb}
use Rattle.std.proofs.Common.{sym, subst, ◌∙◌, arith, true≢false, inl, inr, ⊎_elim, eqb-true}
use Rattle.std.proofs.Math.Bool.{not}
use mathlib.Core.List.{List, [], ◌∷◌}
use Rattle.text.specs.Tests.{and_T, cases, every, is_true, true_T}
use Rattle.text.specs.Each.{All, all_nil, all_cons, all_append, all_map}
use Rattle.text.specs.Utf8.{Scalar}
use Rattle.text.specs.Utf8.Controls.{NoControl}
use Rattle.text.specs.Class.{Profile, among, cr, is_control, lf, number}
use Rattle.text.specs.Class.Laws.{ControlClasses, ZeroWidthClasses, breaks, breaks_or_extends, every_class}
use Rattle.text.specs.Width.{width_of}
use Rattle.text.specs.Width.Laws.{width_cons, width_nil}
use Rattle.text.specs.Cluster.{Context, class_of, clusters, context, join_all, joined, joins}
use Rattle.text.specs.Cluster.Joined.{Joined, clusters_joined}
use Rattle.text.specs.Cluster.Laws.{clusters_all, join_cons, join_nil}
use Rattle.text.specs.Cluster.Parts.{Wide}

first_rules : (a b c d : Bool) → cond a true (cond b false (cond c false d)) ≡ true → (a ≡ true) ⊎ ((b ≡ false) × (c ≡ false))
first_rules true b c d e = inl refl
first_rules false true c d e = absurd (true≢false (sym e))
first_rules false false true d e = absurd (true≢false (sym e))
first_rules false false false d e = inr (refl, refl)

joined_breaks : (p : ℕ) (k : Context) (c : ℕ) → joined p k c ≡ true → breaks c ≡ breaks p
unfolding joined among number
joined_breaks p k c e = ⊎_elim
    (λ a. let w = and_T (eqb p 0) (eqb c 1) (true_T a) in rw (eqb-true p 0 (is_true (eqb p 0) w.0), eqb-true c 1 (is_true (eqb c 1) w.1)) refl)
    (λ b. b.1 ∙ sym b.0)
    (first_rules (among p (cr ∷ []) && among c (lf ∷ [])) (breaks p) (breaks c) _ e)

module _ (P : Profile) where
  -- all of them, or none
  abbrev Breaks : Bool → List Scalar → Type 0
  Breaks b s = All (λ (c : Scalar). breaks (class_of P c) ≡ b) s

  rest_breaks : (s : List Scalar) (c : Scalar) (before : List Scalar) → Joined P (c ∷ before) s → Breaks (breaks (class_of P c)) s
  unfolding Joined joins
  rest_breaks [] c before t = all_nil
  rest_breaks (d ∷ s) c before t =
      let e = joined_breaks (class_of P c) (context P (c ∷ before)) (class_of P d) t.0 in
      all_cons e (all_map (λ x h. h ∙ e) (rest_breaks s d (c ∷ before) t.1))

  clusters_break : (s : List Scalar) → All (λ (g : List Scalar). Breaks true g ⊎ Breaks false g) (clusters P s)
  clusters_break = clusters_joined P (λ (g : List Scalar). Breaks true g ⊎ Breaks false g) (λ c s t. by c s (rest_breaks s c [] t))
    where
      by : (c : Scalar) (s : List Scalar) → Breaks (breaks (class_of P c)) s → Breaks true (c ∷ s) ⊎ Breaks false (c ∷ s)
      by c s a = cases (breaks (class_of P c)) (λ e. inl (all_cons e (rw e at a))) (λ e. inr (all_cons e (rw e at a)))

  module _ (z : ZeroWidthClasses P) where
    break_flat : (c : Scalar) → breaks (class_of P c) ≡ true → P.width c.code ≡ 0
    unfolding among number every
    break_flat c e = z.none c.code (rw e at (every_class (λ n. not (breaks n) || breaks_or_extends n) tt (P.class c.code)))

    breaks_flat : {g : List Scalar} → Breaks true g → width_of P g ≡ 0
    breaks_flat all_nil = width_nil P
    breaks_flat (all_cons {a = c} {s = g} e a) = rw (width_cons P c g, break_flat c e, breaks_flat a)

    module _ (k : ControlClasses P) where
      cluster_no_control : (g : List Scalar) → Breaks true g ⊎ Breaks false g → 1 ≤ width_of P g → All NoControl g
      cluster_no_control g w h = ⊎_elim
          (λ a. absurd (omega (arith, breaks_flat a)))
          (λ a. all_map (λ c e. cases (is_control c.code) (λ i. absurd (true≢false (sym (k.breaks c.code i) ∙ e))) (λ i. i)) a)
          w

      join_no_control : {gs : List (List Scalar)} → All (λ (g : List Scalar). Breaks true g ⊎ Breaks false g) gs → Wide P gs → All NoControl (join_all gs)
      join_no_control all_nil all_nil = rw join_nil all_nil
      join_no_control (all_cons {a = g} {s = gs} b bs) (all_cons w ws) = rw (join_cons g gs) (all_append (cluster_no_control g b w) (join_no_control bs ws))

      pub wide_no_control : (s : List Scalar) → Wide P (clusters P s) → All NoControl s
      wide_no_control s w = subst (All NoControl) (clusters_all P s) (join_no_control (clusters_break s) w)
