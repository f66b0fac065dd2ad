-- The forward walk through a cluster: a packed scalar taken apart, the rules by the state's number, a turn of the loop and its ends.
use Prim.Native.Nat.{◌%◌, ◌*◌, ◌+◌, ◌/◌, ◌<◌, ◌≤◌, ℕ}
use native.Mathlib.Nat.{add_assoc, add-zero}
use native.Mathlib.Omega.{arith}
use mathlib.Core.Bool.{Bool, ◌&&◌, ◌||◌, and-false, cond, false, not, true}
use mathlib.Core.List.{List, [], ◌∷◌}
use mathlib.Core.Logic.{◌≢◌, ⊎_elim}
use mathlib.Core.Path.{◌∙◌, ◌≡◌, ap, refl, sym}
use lib.Dec.{T, eqb, eqb→eq, ltb, ltb→lt}
use lib.ListN.{get_or-eq_default, drop, get_or, length, length-drop, take}
use borrow.Author.Tests.{eqb-false, eqb-true, le-ltb, ltb-false, ltb-true, ne_eqb, not-true}
use Rattle.text.specs.Class.{Profile, among, number}
use Rattle.text.specs.Cluster.{Context, after, class_of, clusters, clusters_after, context, joined, joins, start}
use Rattle.text.specs.Cluster.Laws.{clusters_first, further}
use Rattle.text.specs.Segmentation.{first_of, first_size, NextCluster, NextClusterReady, more_of, never_joins_before, one_byte_cluster}
use Rattle.text.specs.Utf8.Code.{sequence_or_zero, size, sequence_of}
use Rattle.text.specs.Class.Code.{printable, profile_of}
use Rattle.text.specs.Rules.{state_after, state_context}
use Rattle.text.specs.Utf8.Code.Laws.{none_past, run_fits, run_valid}
use Rattle.text.specs.Cluster.Printable.{printable_first, printable_one as one_column}
use Rattle.text.specs.Class.Laws.{number_le}
use Rattle.text.specs.Class.Profile01.{ascii_classes}
use Rattle.text.specs.Width.Laws.{width_size, width_two}
use Rattle.text.specs.Each.{All, all_split}
use Rattle.std.specs.Prelude.{Option, None, Some}
use Rattle.text.specs.Scalar.{as_scalar, packed_at, scalar_here}
use Rattle.text.specs.Scalar.Laws.{NoScalar, PackedScalar, class_known, none_text, packed_here, packed_view, past_is, some_here}
use Rattle.text.specs.declared.scalar.Scalar as packed
use Rattle.text.specs.Tests.{and_T, cases, is_true, or_none, true_T, in_range_law, every, every_one}
use Rattle.text.specs.TextParts.{Measured, column, place, text_at}
use Rattle.text.specs.TextParts.Laws.{first_all}
use Rattle.text.specs.Utf8.{Scalar, ascii, decode}
use Rattle.text.specs.Utf8.Valid.{Valid}
use Rattle.text.specs.Width.{width_of}
use Rattle.text.specs.Segmentation.Boundaries.{alone_numbers, apart, breaks, lone, lone_low, other_alone}
use Rattle.text.proofs.PackedScalars.{first_packed, printable_one}
use Rattle.text.proofs.SequenceBytes.{run_good, run_size, scalar_at}
use Rattle.text.specs.declared.segmentation.ClusterStep.{ClusterStep}
use Rattle.text.specs.declared.class.Profile as code
use Rattle.text.specs.Utf8.Code.FirstSequence.{ascii_sequence}

-- ---- a packed scalar

pub class_small : (P : Profile) (x k : ℕ) → k ≡ number (P.class x) → k ≤ 12
class_small P x k e = rw e (number_le (P.class x))

pub class_le : (P : Profile) (s : List ℕ) (p v : ℕ) → p < length s → v ≡ packed_at P s p → v / 8 % 16 ≤ 12
class_le P s p v here read = ⊎_elim
    (λ (n : NoScalar s p v). rw n.zero (omega arith))
    (λ (x : PackedScalar P s p v). rw (← x.class) (number_le (P.class x.c.code)))
    (packed_view P s p v here read)

-- ---- the rules, by the class of the next scalar

unfoldable pub continues : ℕ → ℕ → Bool
continues p c =
    cond (eqb c 11 || (eqb c 0 || eqb c 2)) false
    (cond (eqb c 3 || eqb c 4) (not ((eqb p 2 || eqb p 0) || eqb p 1))
    (cond (eqb c 5 || (eqb c 8 || eqb c 9)) (eqb p 5)
    (cond (eqb c 6) ((eqb p 5 || eqb p 8) || eqb p 6)
    (cond (eqb c 7) (((eqb p 8 || eqb p 6) || eqb p 9) || eqb p 7)
    (cond (eqb c 10) (eqb p 10)
    (cond (eqb c 12) (eqb p 15) (eqb p 0)))))))

same : Bool → Bool → Bool
same a b = cond a b (not b)

same_is : (a b : Bool) → same a b ≡ true → a ≡ b
unfolding same
same_is true true e = refl
same_is true false e = sym e
same_is false true e = e
same_is false false e = refl

rule : ℕ → ℕ → Bool
rule p c = same (continues p c) (joined p (state_context p) c)

row : ℕ → Bool
row p = every (rule p) 0 13

all_rules : T (every row 0 16)
unfolding every row rule same continues joined among number
all_rules = tt

pub rule_is : (p c : ℕ) (r : Bool) → p ≤ 15 → c ≤ 12 → r ≡ continues p c → r ≡ joined p (state_context p) c
unfolding row rule
rule_is p c r h k e =
    e ∙ same_is (continues p c) (joined p (state_context p) c) (every_one (rule p) 13 0 c (true_T (every_one row 16 0 p all_rules (omega arith) (omega arith))) (omega arith) (omega arith))

module _ (P : Profile) where
  -- a state stands for the class and the context: behind an even number of regional indicators they join what other scalars do, and what Extend and ZWJ
  -- join is told by the context alone
  as_other : (s : List Scalar) → more_of P 10 start s ≡ more_of P 11 start s
  unfolding more_of joined among number
  as_other [] = refl
  as_other (c ∷ s) = refl

  as_picture : (s : List Scalar) → more_of P 3 (state_context 12) s ≡ more_of P 12 (state_context 12) s
  unfolding more_of joined among number
  as_picture [] = refl
  as_picture (c ∷ s) = refl

  as_zwj : (s : List Scalar) → more_of P 4 (state_context 15) s ≡ more_of P 15 (state_context 15) s
  unfolding more_of joined among number
  as_zwj [] = refl
  as_zwj (c ∷ s) = refl

  more_state : (p c : ℕ) (s : List Scalar) → c ≤ 12 → more_of P c (after (state_context p) c) s ≡ more_of P (state_after p c) (state_context (state_after p c)) s
  unfolding after among number
  more_state p c s h =
      cases (eqb c 10)
      (λ e. cases (eqb p 10)
      (λ f. rw (eqb-true c 10 e, eqb-true p 10 f) (as_other s))
      (λ f. rw (eqb-true c 10 e, f, and-false (eqb p 12)) refl))
      (λ e. cases (eqb p 12)
      (λ f. rw (eqb-true p 12 f) (picture e))
      (λ f. rw (e, f, and-false (eqb p 10), e, ne_eqb c 15 (λ z. omega (arith, h, z)), or_none (eqb c 12)) refl))
    where
      picture : eqb c 10 ≡ false → more_of P c (after (state_context 12) c) s ≡ more_of P (state_after 12 c) (state_context (state_after 12 c)) s
      picture e =
          cases (eqb c 3)
          (λ f. rw (eqb-true c 3 f) (as_picture s))
          (λ f. cases (eqb c 4)
          (λ g. rw (eqb-true c 4 g) (as_zwj s))
          (λ g. rw (e, f, g, e, ne_eqb c 15 (λ z. omega (arith, h, z)), or_none (eqb c 12)) refl))

  more_further : (s : List Scalar) (p : Scalar) (ps : List Scalar) → take (further P (p ∷ ps) s) s ≡ more_of P (class_of P p) (context P (p ∷ ps)) s
  unfolding further more_of joins context
  more_further [] p ps = refl
  more_further (c ∷ s) p ps =
      cases (joined (class_of P p) (context P (p ∷ ps)) (class_of P c))
      (λ e. rw e (ap (λ (l : List Scalar). c ∷ l) (more_further s c (p ∷ ps))))
      (λ e. rw e refl)

  first_more : (c : Scalar) (s : List Scalar) → first_of (clusters P (c ∷ s)) ≡ c ∷ more_of P (class_of P c) (after start (class_of P c)) s
  unfolding first_of context
  first_more c s = rw (clusters_first P c s) (ap (λ (l : List Scalar). c ∷ l) (more_further s c []))

  no_first : first_of (clusters P []) ≡ []
  unfolding first_of clusters
  no_first = refl

state_le : (p c b : ℕ) → c ≤ 12 → b ≡ state_after p c → b ≤ 15
state_le p c b h e =
    cases (eqb p 10 && eqb c 10) (λ t. rw (e, t) (omega arith))
    (λ t. cases (eqb p 12 && eqb c 3) (λ u. rw (e, t, u) (omega arith))
    (λ u. cases (eqb p 12 && eqb c 4) (λ w. rw (e, t, u, w) (omega arith)) (λ w. rw (e, t, u, w) (omega (arith, h)))))

-- ---- a cluster measured

abbrev first_at : Profile → List ℕ → ℕ → List Scalar
first_at P s at = first_of (clusters P (text_at s at))

module _ (f : code.Profile) (s : List ℕ) (at : ℕ) where
  measured : (e x : ℕ) → at < length s → e ≡ at + size (first_at (profile_of f) s at) → x ≡ width_of (profile_of f) (first_at (profile_of f) s at)
      → Measured (profile_of f) s at (first_at (profile_of f) s at) (record { end = place e; width = column x })
  measured e x here h v =
      let k = first_all (profile_of f) (text_at s at) in
      let a : All Valid (first_at (profile_of f) s at) = (all_split (first_at (profile_of f) s at) (rw k.1 at (run_valid (drop at s)))).0 in
      record {
        end = h;
        width = v;
        inside = omega (arith, h, run_fits (drop at s) (first_at (profile_of f) s at) k.0 k.1, length-drop at s);
        small = omega (arith, h, v, width_size f a);
      }

  -- a printable byte before another
  pub plain_measured : (a b : ℕ) (p q : Bool) → a ≡ get_or s at 0 → b ≡ get_or s (at + 1) 0 → p ≡ printable a → p ≡ true → q ≡ printable b → q ≡ true → at < length s
      → Measured (profile_of f) s at (first_at (profile_of f) s at) (record { end = place (at + 1); width = column 1 })
  unfolding size
  plain_measured a b p q ea eb hp tp hq tq here =
      let e : first_at (profile_of f) s at ≡ ascii a ∷ [] = printable_first (profile_of f) (ascii_classes f) s at a b ea eb (sym hp ∙ tp) (sym hq ∙ tq) in
      measured (at + 1) 1 here (rw e (omega arith)) (rw (e, one_column (profile_of f) (ascii_classes f) a (sym hp ∙ tp)) refl)

-- ---- the loop

-- at p, with w columns behind: what is left of the cluster that begins at a place
pub record Walking (P : Profile) (s : List ℕ) (at p w state : ℕ) : Type 0 where
  pub here : at < length s
  pub class : state ≤ 15
  pub inside : p ≤ length s
  pub bound : w ≤ 2 * p
  pub ends : at + size (first_at P s at) ≡ p + size (more_of P state (state_context state) (text_at s p))
  pub widths : width_of P (first_at P s at) ≡ w + width_of P (more_of P state (state_context state) (text_at s p))

no_both : (r : Bool) → r ≡ true → r ≡ false → ⊥
no_both r t f = let e : ◌≡◌ {A = ℕ} 0 1 = ap (λ (b : Bool). cond b 0 1) (sym t ∙ f) in omega (arith, e)

module _ (f : code.Profile) where
  abbrev P : Profile
  P = profile_of f

  pub width_room : (s : List ℕ) (p v : ℕ) → p < length s → v ≡ packed_at P s p → (v / 128 ≤ 2 * (v % 8)) × (p + v % 8 ≤ length s)
  width_room s p v here read = ⊎_elim
      (λ (n : NoScalar s p v). rw n.zero (omega arith, omega arith))
      (λ (x : PackedScalar P s p v). (omega (arith, x.some, width_two f x.c.code (v / 128) (sym x.columns)), x.room))
      (packed_view P s p v here read)

  walk_begin : (s : List ℕ) (at u : ℕ) → at < length s → u ≡ packed_at P s at → Walking P s at (at + u % 8) (u / 128) (u / 8 % 16)
  unfolding more_of size width_of
  walk_begin s at u here read =
      let b = width_room s at u here read in
      ⊎_elim
      (λ (n : NoScalar s at u). record {
        here = here;
        class = omega (arith, class_le P s at u here read);
        inside = b.1;
        bound = omega (arith, b.0);
        ends = rw (n.zero, add-zero at, n.run, no_first P) refl;
        widths = rw (n.zero, add-zero at, n.run, no_first P) refl;
      })
      (λ (x : PackedScalar P s at u).
      let rest : List Scalar = text_at s (at + u % 8) in
      let e : first_at P s at ≡ x.c ∷ more_of P (u / 8 % 16) (state_context (u / 8 % 16)) rest = ap (λ (l : List Scalar). first_of (clusters P l)) x.run ∙ first_more P x.c rest ∙ rw (x.class, more_state P 0 (u / 8 % 16) rest (class_le P s at u here read)) refl in
      record {
        here = here;
        class = omega (arith, class_le P s at u here read);
        inside = b.1;
        bound = omega (arith, b.0);
        ends = rw (e, x.len) (sym (add_assoc at (u % 8) _));
        widths = rw (e, x.columns) refl;
      })
      (packed_view P s at u here read)

  -- the scalar that a walk begins with
  module _ (s : List ℕ) (at : ℕ) (u : Option packed.Scalar) (ready : NextClusterReady P s at u) where
    pub start_none : u ≡ None → NextCluster P s at (record { part = record { end = place at; width = column 0 }; next = None })
    unfolding size width_of
    start_none e =
        let t : text_at s at ≡ [] = none_text P s at u ready.scalar e in
        let n : first_at P s at ≡ [] = ap (λ (l : List Scalar). first_of (clusters P l)) t ∙ no_first P in
        record { part = measured f s at at 0 ready.inside (rw (n, add-zero at) refl) (rw n refl); next = sym e ∙ ready.scalar }

    module _ (v : packed.Scalar) (e : u ≡ Some v) where
      pub start_class : v.0 / 8 % 16 ≤ 12
      start_class = class_known P s at u ready.scalar v e

      pub start_walk : (n w k : ℕ) → n ≡ v.0 % 8 → w ≡ v.0 / 128 → k ≡ v.0 / 8 % 16 → Walking P s at (at + n) w k
      start_walk n w k en ew ek = rw (en, ew, ek) (walk_begin s at v.0 ready.inside (some_here P s at u ready.scalar v e).0)

  -- the end of what is left
  walk_stop : (s : List ℕ) (at p w state : ℕ) (o : Option packed.Scalar) → Walking P s at p w state → more_of P state (state_context state) (text_at s p) ≡ [] → o ≡ scalar_here P s p
      → NextCluster P s at (record { part = record { end = place p; width = column w }; next = o })
  unfolding size width_of
  walk_stop s at p w state o h e read =
      record { part = measured f s at p w h.here (sym (rw (e, add-zero) at h.ends)) (sym (rw (e, add-zero) at h.widths)); next = read }

  pub walk_end : (s : List ℕ) (at p w state : ℕ) → length s ≤ p → Walking P s at p w state
      → NextCluster P s at (record { part = record { end = place p; width = column w }; next = None })
  unfolding more_of
  walk_end s at p w state l h = walk_stop s at p w state None h (rw (none_past s p l) refl) (past_is P s p l)

  -- what stands at p
  module _ (s : List ℕ) (at p w state : ℕ) (here : p < length s) (h : Walking P s at p w state) (o : Option packed.Scalar) (read : o ≡ scalar_here P s p) where
    pub walk_none : o ≡ None → NextCluster P s at (record { part = record { end = place p; width = column w }; next = o })
    unfolding more_of
    walk_none e = walk_stop s at p w state o h (rw (none_text P s p o read e) refl) read

    module _ (v : packed.Scalar) (is : o ≡ Some v) where
      pub walk_class : v.0 / 8 % 16 ≤ 12
      walk_class = class_known P s p o read v is

      x : PackedScalar P s p v.0
      x = packed_here P s p o read v is

      read_number : v.0 ≡ packed_at P s p
      read_number = (some_here P s p o read v is).0

      pub walk_room : (n : ℕ) → n ≡ v.0 % 8 → (p + n ≤ length s) × (1 ≤ n)
      walk_room n e = rw e (x.room, x.some)

      pub walk_columns : (n : ℕ) → n ≡ v.0 / 128 → n ≤ 2
      walk_columns n e = width_two f x.c.code n (e ∙ sym x.columns)

      module _ (k : ℕ) (ek : k ≡ v.0 / 8 % 16) (r : Bool) (rr : r ≡ joined state (state_context state) k) where
        pub walk_boundary : r ≡ false → NextCluster P s at (record { part = record { end = place p; width = column w }; next = Some v })
        unfolding more_of
        walk_boundary t = walk_stop s at p w state (Some v) h (rw (x.run, x.class, ← ek, sym rr ∙ t) refl) (sym is ∙ read)

        pub walk_turn : (b n y : ℕ) → r ≡ true → b ≡ state_after state k → n ≡ v.0 % 8 → y ≡ v.0 / 128 → Walking P s at (p + n) (w + y) b
        unfolding more_of size width_of
        walk_turn b n y t e en ey =
            let l = width_room s p v.0 here read_number in
            let rest : List Scalar = text_at s (p + v.0 % 8) in
            let small : k ≤ 12 = rw ek walk_class in
            let m : more_of P state (state_context state) (text_at s p) ≡ x.c ∷ more_of P b (state_context b) rest = rw (x.run, x.class, ← ek, sym rr ∙ t, e, more_state P state k rest small) refl in
            let g : Walking P s at (p + v.0 % 8) (w + v.0 / 128) b = record {
              here = h.here;
              class = state_le state k b small e;
              inside = x.room;
              bound = omega (arith, l.0, h.bound);
              ends = rw (m, x.len, ← add_assoc) at h.ends;
              widths = rw (m, x.columns, ← add_assoc) at h.widths;
            } in
            rw (en, ey) g

  -- a printable byte before another
  pub plain_next : (s : List ℕ) (at : ℕ) (u : Option packed.Scalar) (v : packed.Scalar) (b : ℕ) (a q : Bool) → NextClusterReady P s at u → u ≡ Some v → b ≡ get_or s (at + 1) 0 → a ≡ eqb v.0 217 → q ≡ printable b → (a && q) ≡ true
      → NextCluster P s at (record { part = record { end = place (at + 1); width = column 1 }; next = Some v })
  unfolding scalar_here
  plain_next s at u v b a q ready is eb ea hq t =
      let k = and_T a q (true_T t) in
      let e : v.0 ≡ 217 = eqb→eq v.0 217 (rw ea at k.0) in
      let tb : printable b ≡ true = sym hq ∙ is_true q k.1 in
      let w = in_range_law 0x20 0x7E b tb in
      let l : at + 1 < length s = cases (ltb (at + 1) (length s)) (λ t. ltb-true (at + 1) (length s) t) (λ t. absurd (omega (arith, w.0, eb ∙ get_or-eq_default s 0 (ltb-false (at + 1) (length s) t)))) in
      let x : 217 ≡ packed_at P s (at + 1) = first_packed P s (at + 1) b 217 l eb (omega (arith, w.1)) (printable_one f b tb) in
      let g : Walking P s at (at + 1) 1 11 = rw e at (walk_begin s at v.0 ready.inside (some_here P s at u ready.scalar v is).0) in
      let same : u ≡ scalar_here P s (at + 1) = ready.scalar ∙ ap as_scalar (sym (some_here P s at u ready.scalar v is).0 ∙ e ∙ x) in
      walk_boundary s at (at + 1) 1 11 l g u same v is 11 (rw e refl) false (rw (alone_numbers 11 (state_context 11) 11 other_alone)) refl

-- ---- the end of a cluster

pub not_one_byte : (s : List ℕ) (p : ℕ) → 0x80 ≤ get_or s p 0 → false ≡ one_byte_cluster s p
not_one_byte s p h = rw (le-ltb (get_or s p 0) 0x20 (omega (arith, h)), le-ltb (get_or s p 0) 0x80 h) refl

-- nothing joins what is not to be joined
more_none : (P : Profile) (cs : List Scalar) (prev : ℕ) (k : Context) → ((c : ℕ) → joined prev k c ≡ false) → more_of P prev k cs ≡ []
unfolding more_of
more_none P [] prev k g = refl
more_none P (c ∷ cs) prev k g = rw (g (class_of P c)) refl

-- a byte below 80 that joins nothing before it ends a cluster there
more_ascii : (P : Profile) (s : List ℕ) (p prev : ℕ) (k : Context) → joined prev k (number (P.class (get_or s p 0))) ≡ false → get_or s p 0 < 128 → more_of P prev k (text_at s p) ≡ []
unfolding more_of
more_ascii P s p prev k g l =
    cases (ltb p (length s))
    (λ e.
    let h : p < length s = ltb-true p (length s) e in
    let r = run_good s p (sequence_of (get_or s p 0) 1) h (ascii_sequence s p (get_or s p 0) h refl l) (λ z. absurd (omega (arith, z))) in
    rw (r, g) refl)
    (λ e. rw (none_past s p (ltb-false p (length s) e)) refl)

-- a byte below 80 that nothing joins
first_byte : (P : Profile) (s : List ℕ) (p a : ℕ) → p < length s → a ≡ get_or s p 0 → a < 128 → more_of P (number (P.class a)) (after start (number (P.class a))) (text_at s (p + 1)) ≡ [] → p + 1 ≡ p + first_size P (text_at s p)
unfolding first_size size
first_byte P s p a here e l m =
    let one : sequence_of a 1 ≡ sequence_or_zero (decode (drop p s)) = ascii_sequence s p a here e l in
    let r : text_at s p ≡ scalar_at p a 1 s ∷ text_at s (p + 1) = run_good s p (sequence_of a 1) here one (λ z. absurd (omega (arith, z))) in
    let n : length (take 1 (drop p s)) ≡ 1 = run_size s p (sequence_of a 1) here one (λ z. absurd (omega (arith, z))) in
    sym (rw (r, first_more P (scalar_at p a 1 s) (text_at s (p + 1)), m, n) refl)

module _ (v : code.Profile) (s : List ℕ) (p : ℕ) (here : p < length s) where
  pub one_byte_law : (r : Bool) → r ≡ one_byte_cluster s p → r ≡ true → p + 1 ≡ p + first_size (profile_of v) (text_at s p)
  one_byte_law r e t =
      let P : Profile = profile_of v in
      let a : ℕ = get_or s p 0 in
      let c : ℕ = number (P.class a) in
      cases (ltb a 0x20)
      (λ f.
      let l : a < 0x20 = ltb-true _ _ f in
      let n : a ≢ 13 = eqb-false _ _ (not-true _ (rw f at (sym e ∙ t))) in
      first_byte P s p a here refl (omega (arith, l)) (more_none P (text_at s (p + 1)) c (after start c) (λ d. breaks P (ascii_classes v) a (after start c) d l n)))
      (λ f.
      let w = and_T (ltb a 0x80) (ltb (get_or s (p + 1) 0) 0x80) (true_T (rw f at (sym e ∙ t))) in
      let l : a < 128 = ltb→lt _ _ w.0 in
      let m : get_or s (p + 1) 0 < 128 = ltb→lt _ _ w.1 in
      let h : 0x20 ≤ a = ltb-false _ _ f in
      let n : a ≢ 13 = λ x. absurd (omega (arith, x, h)) in
      first_byte P s p a here refl l (more_ascii P s (p + 1) c (after start c) (apart P (ascii_classes v) a (get_or s (p + 1) 0) (after start c) l m n) m))

  -- a byte below 80, LF apart, after the first scalar
  pub one_scalar : (o : Option packed.Scalar) (first : packed.Scalar) (n b : ℕ) (r : Bool) → o ≡ scalar_here (profile_of v) s p → o ≡ Some first → n ≡ first.0 % 8 → b ≡ get_or s (p + n) 0 → r ≡ never_joins_before b → r ≡ true → p + n ≡ p + first_size (profile_of v) (text_at s p)
  unfolding first_size size
  one_scalar o first n b r read is en e f t =
      let u : ℕ = first.0 in
      let g : b ≡ get_or s (p + u % 8) 0 = rw en at e in
      let w = walk_begin v s p u here (some_here (profile_of v) s p o read first is).0 in
      let l : never_joins_before b ≡ true = sym f ∙ t in
      let m : more_of (profile_of v) (u / 8 % 16) (state_context (u / 8 % 16)) (text_at s (p + u % 8)) ≡ [] = more_ascii (profile_of v) s (p + u % 8) (u / 8 % 16) (state_context (u / 8 % 16)) (alone_numbers (u / 8 % 16) (state_context (u / 8 % 16)) _ (rw g at (lone (profile_of v) (ascii_classes v) b l))) (rw g at (lone_low b l)) in
      rw en (sym (rw (m, add-zero) at w.ends))

  -- none there
  pub none_there : (o : Option packed.Scalar) → o ≡ scalar_here (profile_of v) s p → o ≡ None → p ≡ p + first_size (profile_of v) (text_at s p)
  unfolding first_size size
  none_there o read e = sym (rw (none_text (profile_of v) s p o read e, no_first (profile_of v)) (add-zero p))

  pub walked : (r : ClusterStep) → NextCluster (profile_of v) s p r → r.part.end.0 ≡ p + first_size (profile_of v) (text_at s p)
  unfolding first_size
  walked r n = n.part.end

-- past the end there is none
pub no_cluster : (P : Profile) (s : List ℕ) (p : ℕ) → length s ≤ p → p ≡ p + first_size P (text_at s p)
unfolding first_size size clusters clusters_after first_of
no_cluster P s p h = sym (ap (λ (cs : List Scalar). p + size (first_of (clusters_after P [] cs))) (none_past s p h) ∙ add-zero p)
