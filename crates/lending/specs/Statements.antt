-- Statements that a walk meets, over the locals of Locals.antt.
--     copies, counts   a local is copied to another; the length of a slice
--     lends_on         a slice is lent again: its pointer, then the slice of that
--     points_on        a `&mut` is lent again: its pointer
--     lends_part, lends_all    the first places of a local array, as a slice; all places of an array behind a `&mut`
--     local, big, gives        an operand that is a local; a number above 1023; one that a call is given
--     calls            a call of a function whose contract is known
-- Assumes `Logic`.
use Rattle.std.specs.Prelude.{◌≡◌, refl, ℕ, zero, ◌<◌, ◌^◌, List, [], ◌∷◌, T}
use Rattle.std.proofs.Common.{sym, ap, subst}
use Rattle.std.proofs.Math.Option.{some}
use seplogic.Ra.Ura.{Ura}
use base.Fraction.{full_share}
use mir.Syntax.{Ty, Callee, w64, field, deref, place, Opd as Operand, copy, int_big, rv_opd, addr_of, aggregate, Body, seq, assign, call}
use mir.Val.{Val, vint, vptr, Fits, WT, has_ty, bits}
use base.Logic.{id⊢, via, guard_i}
use prog.Memory.{field_of}
use prog.Wp.{Env, Calls, Loops, spot_of}
use types.Logic.{Logic}
use types.Kit.{Item, Post, Seq, Step, step, runs, ‵, raw, ◌⊛◌, some as ∃, later, ◌$◌, move, use1, split, pick, rewrite, regoal, lands, await}
use types.Run.{Opd, Opds, load, from, stop, hop, fld, addr, of_opd, assigns, and_then, no_more, land}
use types.Part.{Part, look_in, sub, agg}
use denote.Slice.{slice_ty, slice_val}
use sound.WpLaws.{FmC}
use Rattle.std.specs.Borrow.{RattleType}
use denote.Laws.{Typed, Is, shows}
use denote.Steps.{peeks, only}
use denote.Signature.{Signature, type_at}
use denote.Triple.Statement.{Triple}
use denote.Triple.Entry.{Res, alive}
use denote.Triple.Spec.{Spec, triple_of}
use denote.Triple.Call.{calls_at}
use Rattle.lending.specs.Spelling.{Spelling, spelled}
use Rattle.lending.specs.Locals.{Held, value, value_at, takes, present, set_at, value_set, present_takes, Locals, local_part, typed, stored}

module _ {M : Type 1} {𝓤 : Ura M} {𝓛 : Logic 𝓤} {K : Type 0} {E : Env 𝓤 𝓛.H} {hs : List Held} where
  -- a local that holds a slice
  open 𝓛 use {H}

  slice_part : K → (i : ℕ) {ρ : Ty} {b o n : ℕ} → (spot_of 𝓤 H E i).0 ≡ slice_ty ρ → value_at E hs i ≡ some (slice_val (b, o) n)
      → Part K 𝓛 (Locals E hs) full_share (slice_ty ρ) (spot_of 𝓤 H E i).1 zero (slice_val (b, o) n) (λ u. Locals E (set_at i (value u) hs))
  slice_part t i {ρ} {b} {o} {n} p e = subst (λ (τ : Ty). Part K 𝓛 (Locals E hs) full_share τ (spot_of 𝓤 H E i).1 zero (slice_val (b, o) n) (λ u. Locals E (set_at i (value u) hs))) p (local_part t i e)

  pub local : K → {Γ : List (Item 𝓤)} (i : ℕ) {v : Val} → value_at E hs i ≡ some v → Opd K 𝓛 (Locals E hs ∷ Γ) E (copy (place i [])) v
  local t i e = load t (from t (stop t)) (look_in t 0 (local_part t i e))

  -- the length of a slice
  count : K → {Γ : List (Item 𝓤)} (i : ℕ) {ρ : Ty} {b o n : ℕ} → (spot_of 𝓤 H E i).0 ≡ slice_ty ρ → value_at E hs i ≡ some (slice_val (b, o) n) → Opd K 𝓛 (Locals E hs ∷ Γ) E (copy (place i (field 1 ∷ []))) (vint w64 n)
  count t i p e = load t (from t (fld t (ap (λ (τ : Ty). field_of τ 1) p) (stop t))) (look_in t 0 (sub t 1 refl (slice_part t i p e)))

  -- a number above 1023 that is written out, by another name
  pub big : K → {Γ : List (Item 𝓤)} {n m : ℕ} → m ≡ n → m < 2 ^ bits w64 → Opd K 𝓛 (Locals E hs ∷ Γ) E (int_big w64 n) (vint w64 m)
  big t {Γ} {n} p f = subst (λ (l : ℕ). Opd K 𝓛 (Locals E hs ∷ Γ) E (int_big w64 n) (vint w64 l)) (sym p) (record { go = λ Kt h. via 𝓤 (Kt (vint w64 n)) h (guard_i 𝓤 (Fits w64 n) (Kt (vint w64 n)) (record { fits = subst (λ (l : ℕ). l < 2 ^ bits w64) p f })) })

  module _ {Γ : List (Item 𝓤)} {C : Calls 𝓤 H} {Λ : Loops 𝓤 H} {q : Post 𝓤 H} {rest : Body} where
    pub copies : K → {i j : ℕ} {v : Val} → value_at E hs i ≡ some v → (spot_of 𝓤 H E i).0 ≡ (spot_of 𝓤 H E j).0 → T (present E hs j)
        → Step K 𝓛 (Locals E (set_at j (value v) hs) ∷ Γ) (runs C Λ E rest q) (Locals E hs ∷ Γ) (runs C Λ E (seq (assign (place j []) (rv_opd (copy (place i [])))) rest) q)
    copies t {i} {j} {v} e p z = step (λ s. typed t i e (λ wt. assigns t (of_opd t (local t i e)) (from t (stop t)) (stored t j (present_takes 𝓤 H E hs j v z (subst (λ (τ : Ty). T (has_ty τ v)) p wt.0)) wt.1) $ s))

    pub counts : K → {i j : ℕ} {ρ : Ty} {b o n : ℕ} → (spot_of 𝓤 H E i).0 ≡ slice_ty ρ → value_at E hs i ≡ some (slice_val (b, o) n) → T (takes E hs j (vint w64 n))
        → Step K 𝓛 (Locals E (set_at j (value (vint w64 n)) hs) ∷ Γ) (runs C Λ E rest q) (Locals E hs ∷ Γ) (runs C Λ E (seq (assign (place j []) (rv_opd (copy (place i (field 1 ∷ []))))) rest) q)
    counts t {i} {j} p e z = step (λ s. typed t i e (λ wt. assigns t (of_opd t (count t i p e)) (from t (stop t)) (stored t j z wt.1.1.0) $ s))

    -- the pointer of a slice, of a local array, or that is a reference
    points : K → {i j : ℕ} {ρ τ : Ty} {b o n : ℕ} → (spot_of 𝓤 H E i).0 ≡ slice_ty ρ → value_at E hs i ≡ some (slice_val (b, o) n) → T (takes E hs j (vptr b o))
        → Step K 𝓛 (Locals E (set_at j (value (vptr b o)) hs) ∷ Γ) (runs C Λ E rest q) (Locals E hs ∷ Γ) (runs C Λ E (seq (assign (place j []) (addr_of (place i (field 0 ∷ deref τ ∷ [])))) rest) q)
    points t {i} {j} p e z = step (λ s. assigns t (addr t (from t (fld t (ap (λ (τ : Ty). field_of τ 0) p) (hop t (look_in t 0 (sub t 0 refl (slice_part t i p e))) (stop t))))) (from t (stop t)) (stored t j z tt) $ s)

    points_at : K → {i j : ℕ} → T (takes E hs j (vptr (spot_of 𝓤 H E i).1 zero))
        → Step K 𝓛 (Locals E (set_at j (value (vptr (spot_of 𝓤 H E i).1 zero)) hs) ∷ Γ) (runs C Λ E rest q) (Locals E hs ∷ Γ) (runs C Λ E (seq (assign (place j []) (addr_of (place i []))) rest) q)
    points_at t {i} {j} z = step (λ s. assigns t (addr t (from t (stop t))) (from t (stop t)) (stored t j z tt) $ s)

    pub points_on : K → {i j : ℕ} {τ : Ty} {b o : ℕ} → value_at E hs i ≡ some (vptr b o) → T (takes E hs j (vptr b o))
        → Step K 𝓛 (Locals E (set_at j (value (vptr b o)) hs) ∷ Γ) (runs C Λ E rest q) (Locals E hs ∷ Γ) (runs C Λ E (seq (assign (place j []) (addr_of (place i (deref τ ∷ [])))) rest) q)
    points_on t {i} {j} e z = step (λ s. assigns t (addr t (from t (hop t (look_in t 0 (local_part t i e)) (stop t)))) (from t (stop t)) (stored t j z tt) $ s)

    -- the slice of a pointer and a length
    slices : K → {j k : ℕ} {x : Operand} {b o n : ℕ} → value_at E hs k ≡ some (vptr b o) → Opd K 𝓛 (Locals E hs ∷ Γ) E x (vint w64 n) → WT (vint w64 n) → T (takes E hs j (slice_val (b, o) n))
        → Step K 𝓛 (Locals E (set_at j (value (slice_val (b, o) n)) hs) ∷ Γ) (runs C Λ E rest q) (Locals E hs ∷ Γ) (runs C Λ E (seq (assign (place j []) (aggregate (copy (place k []) ∷ x ∷ []))) rest) q)
    slices t {j} {k} d x wt z = step (λ s. assigns t (agg t (and_then t (local t k d) (and_then t x (no_more t)))) (from t (stop t)) (stored t j z (tt, (wt, tt))) $ s)

module _ {M : Type 1} {𝓤 : Ura M} {𝓛 : Logic 𝓤} {K : Type 0} {E : Env 𝓤 𝓛.H} {hs : List Held} {Γ : List (Item 𝓤)} {C : Calls 𝓤 𝓛.H} {Λ : Loops 𝓤 𝓛.H} {q : Post 𝓤 𝓛.H} {rest : Body} where
  open 𝓛 use {H}

  pub lends_on : K → {i j k : ℕ} {ρ τ : Ty} {b o n : ℕ} → (spot_of 𝓤 H E i).0 ≡ slice_ty ρ → value_at E hs i ≡ some (slice_val (b, o) n) → T (takes E hs k (vptr b o))
      → value_at E (set_at k (value (vptr b o)) hs) i ≡ some (slice_val (b, o) n) → T (takes E (set_at k (value (vptr b o)) hs) j (slice_val (b, o) n))
      → Step K 𝓛 (Locals E (set_at j (value (slice_val (b, o) n)) (set_at k (value (vptr b o)) hs)) ∷ Γ) (runs C Λ E rest q)
      (Locals E hs ∷ Γ) (runs C Λ E (seq (assign (place k []) (addr_of (place i (field 0 ∷ deref τ ∷ [])))) (seq (assign (place j []) (aggregate (copy (place k []) ∷ copy (place i (field 1 ∷ [])) ∷ []))) rest)) q)
  lends_on t {i} {k = k} p e z e' z' = step (λ s. points t p e z $ typed t i e' (λ wt. slices t (value_set E hs k z) (count t i p e') wt.1.1.0 z' $ s))

  pub lends_part : K → {i j k l : ℕ} {n : ℕ} → T (takes E hs k (vptr (spot_of 𝓤 H E l).1 zero)) → value_at E (set_at k (value (vptr (spot_of 𝓤 H E l).1 zero)) hs) i ≡ some (vint w64 n)
      → T (takes E (set_at k (value (vptr (spot_of 𝓤 H E l).1 zero)) hs) j (slice_val ((spot_of 𝓤 H E l).1, zero) n))
      → Step K 𝓛 (Locals E (set_at j (value (slice_val ((spot_of 𝓤 H E l).1, zero) n)) (set_at k (value (vptr (spot_of 𝓤 H E l).1 zero)) hs)) ∷ Γ) (runs C Λ E rest q)
      (Locals E hs ∷ Γ) (runs C Λ E (seq (assign (place k []) (addr_of (place l []))) (seq (assign (place j []) (aggregate (copy (place k []) ∷ copy (place i []) ∷ []))) rest)) q)
  lends_part t {i} {k = k} z e z' = step (λ s. points_at t z $ typed t i e (λ wt. slices t (value_set E hs k z) (local t i e) wt.1 z' $ s))

  pub lends_all : K → {i j k : ℕ} {τ : Ty} {x : Operand} {b o n : ℕ} → value_at E hs i ≡ some (vptr b o) → T (takes E hs k (vptr b o)) → Opd K 𝓛 (Locals E (set_at k (value (vptr b o)) hs) ∷ Γ) E x (vint w64 n) → n < 2 ^ bits w64 → T (takes E (set_at k (value (vptr b o)) hs) j (slice_val (b, o) n))
      → Step K 𝓛 (Locals E (set_at j (value (slice_val (b, o) n)) (set_at k (value (vptr b o)) hs)) ∷ Γ) (runs C Λ E rest q)
      (Locals E hs ∷ Γ) (runs C Λ E (seq (assign (place k []) (addr_of (place i (deref τ ∷ [])))) (seq (assign (place j []) (aggregate (copy (place k []) ∷ x ∷ []))) rest)) q)
  lends_all t {k = k} e z x f z' = step (λ s. points_on t e z $ slices t (value_set E hs k z) x (record { fits = f }) z' $ s)

-- ---- calls
module _ {M : Type 1} {𝓤 : Ura M} {𝓛 : Logic 𝓤} {K : Type 0} {E : Env 𝓤 𝓛.H} {hs : List Held} {Γ : List (Item 𝓤)} where
  -- an operand is a local
  open 𝓛 use {H}

  pub gives : K → {i : Item 𝓤} {k : ℕ} {v : Val} {xs : List Operand} {vs : List Val} → value_at E hs k ≡ some v → Opds K 𝓛 (i ∷ Locals E hs ∷ Γ) E xs vs → Opds K 𝓛 (i ∷ Locals E hs ∷ Γ) E (copy (place k []) ∷ xs) (v ∷ vs)
  gives t {i} {k} e os = and_then t (load t (from t (stop t)) (look_in t 1 (local_part t k e))) os

  -- the result's value is spelled out
  pub calls : K → {C : Calls 𝓤 H} {Λ : Loops 𝓤 H} {q : Post 𝓤 H} {rest : Body} {f : Callee} {xs : List Operand} {i : ℕ} → FmC 𝓤 H 𝓛.laws C → (S : Signature) (s : Spec 𝓤 S) → Triple 𝓤 (C f) (triple_of 𝓛 S s) → (y : (triple_of 𝓛 S s).Ghost)
      → Opds K 𝓛 (raw ((triple_of 𝓛 S s).pre y) ∷ Locals E hs ∷ Γ) E xs ((triple_of 𝓛 S s).args y) → (L : Spelling 𝓛 (type_at S.result y.0.0)) → ((r : Res S y.0.0) → Typed (type_at S.result y.0.0).mir (L.spell r ∷ []) → T (takes E hs i (L.spell r)) × WT (L.spell r))
      → ((r : Res S y.0.0) → Is (type_at S.result y.0.0) r (L.spell r ∷ [])
      → Seq K 𝓛 (Locals E (set_at i (value (L.spell r)) hs) ∷ raw (alive 𝓛 S y.0.0 y.0.1) ∷ raw ((s y.0.0 y.0.3).ensures y.1 r) ∷ ‵ ((type_at S.result y.0.0).own_val r (L.spell r ∷ [])) ∷ Γ) (runs C Λ E rest q))
      → Seq K 𝓛 (raw ((triple_of 𝓛 S s).pre y) ∷ Locals E hs ∷ Γ) (runs C Λ E (seq (call f xs (place i [])) rest) q)
  calls t {C} {Λ} {q} {rest} {i = i} fm S s met y os L fits k = calls_at t fm (triple_of 𝓛 S s) met y os (λ v.
      use1 𝓛 (later (∃ (λ (r : Res S y.0.0). (raw (alive 𝓛 S y.0.0 y.0.1) ⊛ ‵ (R.own_val r (v ∷ []))) ⊛ raw ((s y.0.0 y.0.3).ensures y.1 r)))) (id⊢ 𝓤 _) $ await t tt $ pick t (λ r. split t $ split t $ move t (1 ∷ []) $
      peeks t R (Is R) (shows 𝓛 R) r (v ∷ []) (λ is. rewrite t 0 (λ (us : List Val). ‵ (R.own_val r us)) (L.tells r (v ∷ []) is) refl $
      regoal t (λ (u : Val). lands C Λ E (place i []) u rest q) (ap only (L.tells r (v ∷ []) is)) refl $ move t (3 ∷ 1 ∷ 2 ∷ 0 ∷ []) $
      land t (from t (stop t)) (stored t i (fits r (L.lawful.typed r _ (spelled L r v is))).0 (fits r (L.lawful.typed r _ (spelled L r v is))).1) $ k r (spelled L r v is))))
    where
      R : RattleType
      R = type_at S.result y.0.0
