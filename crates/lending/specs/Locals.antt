-- The locals of a function as one entry of a walk's context, so that a walk names a local by its number.
--     Held                     what a local holds: nothing yet, a value, or it is lent
--     Locals E hs              the entry: the locals at their blocks, each with what it holds
--     value_at, takes, present  the value of a local, whether it may be given a value, whether it isn't lent: they compute, so that a walk shows them by refl and tt
--     local_part, stored       a local is read, and written
--     typed, revalue           what it holds is well typed, and may be written another way
--     goes_out, comes_back     a local is lent, and comes back with nothing in it
--     begins, ends             the beginning and the return of a function.        forgets     what the later locals hold is forgotten
-- Assumes `Logic`.
use Rattle.std.specs.Prelude.{◌≡◌, refl, Bool, true, false, ◌&&◌, take, T}
use Rattle.std.proofs.Common.{sym, ◌∙◌, ap, arith}
use Prim.Native.Nat.{ℕ, zero, suc}
use Rattle.std.proofs.Math.Option.{Option, none, some}
use mathlib.Core.List.{List, [], ◌∷◌}
use seplogic.Ra.Ura.{Ura}
use base.Fraction.{full_share}
use mir.Syntax.{Ty, Local, local, Fn, return}
use mir.Val.{Val, WT, has_ty}
use base.Logic.{SProp, ent, sep, wand, all, guard, emp, id⊢, mono∗, mono_r, all_e, apply∗, guard_i}
use base.Fml.{Fml, ftrue, fsep, fat, froom, fdies}
use prog.Wp.{Heap, Env, Calls, Loops, WpFn, spot_of}
use types.Logic.{Logic, sem}
use types.Kit.{Item, given, mean, learn, Goal, Seq, Step, step, prop, runs, allocs, params', passes, frees, at_ret, ‵, raw, ◌⊛◌, ◌$◌, ◌∵◌, !, qed, by, move, use1, use2, split, rewrite, fsplit, fjoin, assume, check, frame, each, drop, done}
use types.Run.{Writes, init, enter, alloc1, alloc0, params1, pass1, pass0, returns, free1, free0, well_typed}
use types.Part.{Part, look_in}
use denote.Steps.{nothing}

pub data Held : Type 0 where
  room : Held
  value : Val → Held
  away : Held

abbrev cell : Ty → ℕ → Held → Fml
cell τ b room = froom τ b zero
cell τ b (value v) = fat full_share τ b zero v
cell τ b away = ftrue

abbrev first : List Held → Held
first [] = room
first (h ∷ hs) = h

abbrev rest : List Held → List Held
rest [] = []
rest (h ∷ hs) = hs

unfoldable pub locals : List (Ty × ℕ) → List Held → Fml
locals [] hs = ftrue
locals (e ∷ E) hs = fsep (cell e.0 e.1 (first hs)) (fsep (fdies e.0 e.1) (locals E (rest hs)))

-- local i
abbrev pub held : List Held → ℕ → Held
held hs zero = first hs
held hs (suc i) = held (rest hs) i

abbrev pub set_at : ℕ → Held → List Held → List Held
set_at zero h hs = h ∷ rest hs
set_at (suc i) h hs = first hs ∷ set_at i h (rest hs)

abbrev pub Inside : List (Ty × ℕ) → ℕ → Type 0
Inside [] i = ⊥
Inside (e ∷ E) zero = Unit {0}
Inside (e ∷ E) (suc i) = Inside E i

abbrev free : Held → Bool
free room = true
free (value v) = true
free away = false

-- the value of local i
abbrev value_of : Held → Option Val
value_of room = none
value_of (value v) = some v
value_of away = none

abbrev pub value_at : List (Ty × ℕ) → List Held → ℕ → Option Val
value_at [] hs i = none
value_at (e ∷ E) hs zero = value_of (first hs)
value_at (e ∷ E) hs (suc i) = value_at E (rest hs) i

-- local i is not lent
abbrev pub present : List (Ty × ℕ) → List Held → ℕ → Bool
present [] hs i = false
present (e ∷ E) hs zero = free (first hs)
present (e ∷ E) hs (suc i) = present E (rest hs) i

-- it may be given the value: it is of the value's type
abbrev pub takes : List (Ty × ℕ) → List Held → ℕ → Val → Bool
takes [] hs i v = false
takes (e ∷ E) hs zero v = free (first hs) && has_ty e.0 v
takes (e ∷ E) hs (suc i) v = takes E (rest hs) i v

pub both : (a b : Bool) → T (a && b) → T a × T b
both true b z = (tt, z)
both false b z = absurd z

and_both : (a b : Bool) → T a → T b → T (a && b)
and_both true b y z = z
and_both false b y z = y

value_held : (h : Held) {v : Val} → value_of h ≡ some v → h ≡ value v
value_held room e = let z : ◌≡◌ {A = ℕ} 0 1 = cc in absurd (omega arith)
value_held (value u) e = cc
value_held away e = let z : ◌≡◌ {A = ℕ} 0 1 = cc in absurd (omega arith)

pub value_inside : (E : List (Ty × ℕ)) (hs : List Held) (i : ℕ) {v : Val} → value_at E hs i ≡ some v → Inside E i × (held hs i ≡ value v)
value_inside [] hs i e = let z : ◌≡◌ {A = ℕ} 0 1 = cc in absurd (omega arith)
value_inside (l ∷ E) hs zero e = (tt, value_held (first hs) e)
value_inside (l ∷ E) hs (suc i) e = value_inside E (rest hs) i e

pub value_set : (E : List (Ty × ℕ)) (hs : List Held) (i : ℕ) {v : Val} → T (takes E hs i v) → value_at E (set_at i (value v) hs) i ≡ some v
value_set [] hs i z = absurd z
value_set (e ∷ E) hs zero z = refl
value_set (e ∷ E) hs (suc i) z = value_set E (rest hs) i z

module _ {M : Type 1} (𝓤 : Ura M) (H : Heap 𝓤) where
  pub present_takes : (E : Env 𝓤 H) (hs : List Held) (i : ℕ) (v : Val) → T (present E hs i) → T (has_ty (spot_of 𝓤 H E i).0 v) → T (takes E hs i v)
  present_takes [] hs i v z y = absurd z
  present_takes (e ∷ E) hs zero v z y = and_both (free (first hs)) (has_ty e.0 v) z y
  present_takes (e ∷ E) hs (suc i) v z y = present_takes E (rest hs) i v z y

  takes_inside : (E : Env 𝓤 H) (hs : List Held) (i : ℕ) (v : Val) → T (takes E hs i v) → Inside E i × (T (free (held hs i)) × T (has_ty (spot_of 𝓤 H E i).0 v))
  takes_inside [] hs i v z = absurd z
  takes_inside (e ∷ E) hs zero v z = (tt, both (free (first hs)) (has_ty e.0 v) z)
  takes_inside (e ∷ E) hs (suc i) v z = takes_inside E (rest hs) i v z

module _ {M : Type 1} {𝓤 : Ura M} (𝓛 : Logic 𝓤) where
  -- local i, holding h
  open 𝓛 use {H}

  abbrev local_at : List (Ty × ℕ) → ℕ → Held → Fml
  local_at E i h = cell (spot_of 𝓤 H E i).0 (spot_of 𝓤 H E i).1 h

  abbrev Put : List (Ty × ℕ) → List Held → ℕ → Held → SProp 𝓤
  Put E hs i h = wand 𝓤 (sem 𝓛 (local_at E i h)) (sem 𝓛 (locals E (set_at i h hs)))

  taken : (E : List (Ty × ℕ)) (hs : List Held) (i : ℕ) → Inside E i → ent 𝓤 (sem 𝓛 (locals E hs)) (sep 𝓤 (sem 𝓛 (local_at E i (held hs i))) (all 𝓤 (Put E hs i)))
  unfolding locals
  taken [] hs i z = absurd z
  taken (e ∷ E) hs zero z =
      qed 𝓛 (‵ (fsep (cell e.0 e.1 (first hs)) (fsep (fdies e.0 e.1) (locals E (rest hs)))) ∷ []) ∵ fsplit ! $ frame ! $
      each ! (Put (e ∷ E) hs zero) (λ h. assume ! (‵ (cell e.0 e.1 h)) $ fjoin ! $ done !)
  taken (e ∷ E) hs (suc i) z =
      qed 𝓛 (‵ (fsep (cell e.0 e.1 (first hs)) (fsep (fdies e.0 e.1) (locals E (rest hs)))) ∷ []) ∵ fsplit ! $ move ! (1 ∷ []) $ fsplit ! $ move ! (1 ∷ []) $
      use1 𝓛 (‵ (local_at E i (held (rest hs) i)) ⊛ raw (all 𝓤 (Put E (rest hs) i))) (taken E (rest hs) i z) $ split ! $ frame ! $
      -- [the way back; dies; the first]
      each ! (Put (e ∷ E) hs (suc i)) (λ h. assume {P = sem 𝓛 (locals (e ∷ E) (set_at (suc i) h hs))} ! (‵ (local_at E i h)) $ move ! (1 ∷ []) $
      use1 𝓛 (raw (Put E (rest hs) i h)) (all_e 𝓤 (Put E (rest hs) i) h) $ move ! (1 ∷ 0 ∷ []) $
      use2 𝓛 (‵ (locals E (set_at i h (rest hs)))) (apply∗ 𝓤 (sem 𝓛 (local_at E i h)) (sem 𝓛 (locals E (set_at i h (rest hs))))) $ move ! (1 ∷ 0 ∷ []) $ fjoin ! $ move ! (1 ∷ 0 ∷ []) $ fjoin ! $ done !)

-- what is put back where it was taken changes nothing
none_held : (i : ℕ) {v : Val} → held [] i ≡ value v → ⊥
none_held zero e = let z : ◌≡◌ {A = ℕ} 0 1 = cc in omega arith
none_held (suc i) e = none_held i e

same : (hs : List Held) (i : ℕ) {v : Val} → held hs i ≡ value v → set_at i (value v) hs ≡ hs
same [] i e = absurd (none_held i e)
same (h ∷ hs) zero e = ap (λ (k : Held). k ∷ hs) (sym e)
same (h ∷ hs) (suc i) e = ap (λ (ks : List Held). h ∷ ks) (same hs i e)

-- the entry: its type says which locals it has, so that a rule reads them off it
pub data Frame (E : List (Ty × ℕ)) (hs : List Held) : Type 0 where
  this : Frame E hs

abbrev pub Locals : {M : Type 1} {𝓤 : Ura M} → List (Ty × ℕ) → List Held → Item 𝓤
Locals E hs = given (Frame E hs) (‵ (locals E hs))

module _ {M : Type 1} {𝓤 : Ura M} (𝓛 : Logic 𝓤) where
  open 𝓛 use {H}

  abbrev Way : (E : Env 𝓤 H) (hs : List Held) (i : ℕ) → Held → SProp 𝓤
  Way E hs i h = wand 𝓤 (sem 𝓛 (local_at 𝓛 E i h)) (mean 𝓛 (Locals E (set_at i h hs)))

  -- one local out of the entry, and back
  out : (E : Env 𝓤 H) (hs : List Held) (i : ℕ) → Inside E i → ent 𝓤 (mean 𝓛 (Locals E hs)) (sep 𝓤 (sem 𝓛 (local_at 𝓛 E i (held hs i))) (all 𝓤 (Way E hs i)))
  out E hs i z = qed 𝓛 (Locals E hs ∷ []) ∵ learn ! (λ _. use1 𝓛 (‵ (local_at 𝓛 E i (held hs i)) ⊛ raw (all 𝓤 (Put 𝓛 E hs i))) (taken 𝓛 E hs i z) $ split ! $ frame ! $
      each ! (Way E hs i) (λ h. assume ! (‵ (local_at 𝓛 E i h)) $ move ! (1 ∷ []) $ use1 𝓛 (raw (Put 𝓛 E hs i h)) (all_e 𝓤 (Put 𝓛 E hs i) h) $ move ! (1 ∷ 0 ∷ []) $
      use2 𝓛 (‵ (locals E (set_at i h hs))) (apply∗ 𝓤 (sem 𝓛 (local_at 𝓛 E i h)) (sem 𝓛 (locals E (set_at i h hs)))) $ by ! (guard_i 𝓤 (Frame E (set_at i h hs)) (sem 𝓛 (locals E (set_at i h hs))) this)))

  -- what a local holds is well typed
  known : (E : Env 𝓤 H) (hs : List Held) (i : ℕ) {v : Val} → value_at E hs i ≡ some v → ent 𝓤 (mean 𝓛 (Locals E hs)) (guard 𝓤 (T (has_ty (spot_of 𝓤 H E i).0 v) × WT v) (mean 𝓛 (Locals E hs)))
  known E hs i {v} e = let is : Inside E i × (held hs i ≡ value v) = value_inside E hs i e in qed 𝓛 (Locals E hs ∷ []) ∵ use1 𝓛 (‵ (local_at 𝓛 E i (held hs i)) ⊛ raw (all 𝓤 (Way E hs i))) (out E hs i is.0) $ split ! $
      rewrite ! 0 (λ (h : Held). ‵ (local_at 𝓛 E i h)) is.1 refl $ well_typed ! (λ ty. check ! ty $ move ! (1 ∷ []) $
      use1 𝓛 (raw (Way E hs i (value v))) (all_e 𝓤 (Way E hs i) (value v)) $ move ! (1 ∷ 0 ∷ []) $
      use2 𝓛 (Locals E (set_at i (value v) hs)) (apply∗ 𝓤 (sem 𝓛 (local_at 𝓛 E i (value v))) (mean 𝓛 (Locals E (set_at i (value v) hs)))) $ rewrite ! 0 (λ (ks : List Held). Locals E ks) (same hs i is.1) refl $ done !)

  to_room : (h : Held) (τ : Ty) (b : ℕ) → T (free h) → ent 𝓤 (sem 𝓛 (cell τ b h)) (H.room τ b zero)
  to_room room τ b z = qed 𝓛 (‵ (froom τ b zero) ∷ []) ∵ done !
  to_room (value v) τ b z = 𝓛.laws.at_room τ b zero v
  to_room away τ b z = absurd z

-- ---- reading and storing
module _ {M : Type 1} {𝓤 : Ura M} {𝓛 : Logic 𝓤} {K : Type 0} {E : Env 𝓤 𝓛.H} {hs : List Held} where
  open 𝓛 use {H}

  pub local_part : K → (i : ℕ) {v : Val} → value_at E hs i ≡ some v → Part K 𝓛 (Locals E hs) full_share (spot_of 𝓤 H E i).0 (spot_of 𝓤 H E i).1 zero v (λ u. Locals E (set_at i (value u) hs))
  local_part t i {v} e = record {
    out = qed 𝓛 (Locals E hs ∷ []) ∵ use1 𝓛 (‵ (local_at 𝓛 E i (held hs i)) ⊛ raw (all 𝓤 (Way 𝓛 E hs i))) (out 𝓛 E hs i (value_inside E hs i e).0) $ split ! $
        rewrite ! 0 (λ (h : Held). ‵ (local_at 𝓛 E i h)) (value_inside E hs i e).1 refl $ frame ! $
        each ! (λ (u : Val). Way 𝓛 E hs i (value u)) (λ u. use1 𝓛 (raw (Way 𝓛 E hs i (value u))) (all_e 𝓤 (Way 𝓛 E hs i) (value u)) $ done !);
    same = ap (λ (ks : List Held). Locals E ks) (same hs i (value_inside E hs i e).1);
  }

  module _ {Γ : List (Item 𝓤)} where
    pub typed : K → {G : Goal 𝓤 H} (i : ℕ) {v : Val} → value_at E hs i ≡ some v → (T (has_ty (spot_of 𝓤 H E i).0 v) × WT v → Seq K 𝓛 (Locals E hs ∷ Γ) G) → Seq K 𝓛 (Locals E hs ∷ Γ) G
    typed t i {v} e k = use1 𝓛 (given (T (has_ty (spot_of 𝓤 H E i).0 v) × WT v) (Locals E hs)) (known 𝓛 E hs i e) $ learn t k

    pub stored : K → (i : ℕ) {v : Val} → T (takes E hs i v) → WT v → Writes K 𝓛 (Locals E hs ∷ Γ) (spot_of 𝓤 H E i).0 (spot_of 𝓤 H E i).1 zero v (Locals E (set_at i (value v) hs) ∷ Γ)
    stored t i {v} z wt = record {
      go = λ P h. let is : Inside E i × (T (free (held hs i)) × T (has_ty (spot_of 𝓤 H E i).0 v)) = takes_inside 𝓤 H E hs i v z in qed 𝓛 (Locals E hs ∷ Γ) ∵ use1 𝓛 (‵ (local_at 𝓛 E i (held hs i)) ⊛ raw (all 𝓤 (Way 𝓛 E hs i))) (out 𝓛 E hs i is.0) $ split ! $
          use1 𝓛 (‵ (froom (spot_of 𝓤 H E i).0 (spot_of 𝓤 H E i).1 zero)) (to_room 𝓛 (held hs i) _ _ is.1.0) $ check ! (is.1.1, wt) $ frame ! $ assume ! (‵ (local_at 𝓛 E i (value v))) $ move ! (1 ∷ []) $
          use1 𝓛 (raw (Way 𝓛 E hs i (value v))) (all_e 𝓤 (Way 𝓛 E hs i) (value v)) $ move ! (1 ∷ 0 ∷ []) $
          use2 𝓛 (Locals E (set_at i (value v) hs)) (apply∗ 𝓤 (sem 𝓛 (local_at 𝓛 E i (value v))) (mean 𝓛 (Locals E (set_at i (value v) hs)))) $ by ! h;
    }

    -- another name of the same value
    pub revalue : K → {G : Goal 𝓤 H} (i : ℕ) {v u : Val} → value_at E hs i ≡ some v → v ≡ u → Step K 𝓛 (Locals E (set_at i (value u) hs) ∷ Γ) G (Locals E hs ∷ Γ) G
    revalue t i e p = rewrite t 0 (λ (ks : List Held). Locals E ks) (sym (same hs i (value_inside E hs i e).1) ∙ ap (λ (w : Val). set_at i (value w) hs) p) refl

    -- a local goes out, and comes back with nothing in it
    pub goes_out : K → {G : Goal 𝓤 H} (i : ℕ) {v : Val} → value_at E hs i ≡ some v → Step K 𝓛 (‵ (fat full_share (spot_of 𝓤 H E i).0 (spot_of 𝓤 H E i).1 zero v) ∷ Locals E (set_at i away hs) ∷ Γ) G (Locals E hs ∷ Γ) G
    goes_out t i {v} e = step (λ s. use1 𝓛 (‵ (local_at 𝓛 E i (held hs i)) ⊛ raw (all 𝓤 (Way 𝓛 E hs i))) (out 𝓛 E hs i (value_inside E hs i e).0) $ split t $ rewrite t 0 (λ (h : Held). ‵ (local_at 𝓛 E i h)) (value_inside E hs i e).1 refl $
        move t (1 ∷ []) $ use1 𝓛 (raw (Way 𝓛 E hs i away)) (all_e 𝓤 (Way 𝓛 E hs i) away) $ nothing t $ use2 𝓛 (Locals E (set_at i away hs)) (apply∗ 𝓤 (emp 𝓤) (mean 𝓛 (Locals E (set_at i away hs)))) $ move t (1 ∷ 0 ∷ []) $ s)

    pub comes_back : K → {G : Goal 𝓤 H} (i : ℕ) → Inside E i → Step K 𝓛 (Locals E (set_at i room hs) ∷ Γ) G (‵ (froom (spot_of 𝓤 H E i).0 (spot_of 𝓤 H E i).1 zero) ∷ Locals E hs ∷ Γ) G
    comes_back t i z = step (λ s. move t (1 ∷ []) $ use1 𝓛 (‵ (local_at 𝓛 E i (held hs i)) ⊛ raw (all 𝓤 (Way 𝓛 E hs i))) (out 𝓛 E hs i z) $ split t $ drop t $
        use1 𝓛 (raw (Way 𝓛 E hs i room)) (all_e 𝓤 (Way 𝓛 E hs i) room) $ move t (1 ∷ 0 ∷ []) $ use2 𝓛 (Locals E (set_at i room hs)) (apply∗ 𝓤 (sem 𝓛 (local_at 𝓛 E i room)) (mean 𝓛 (Locals E (set_at i room hs)))) $ s)

-- ---- a function's locals are allocated, its arguments stored; at the end its locals are freed
abbrev pub Blocks : List Local → Type 0
Blocks [] = Unit {0}
Blocks (l ∷ ls) = ℕ × Blocks ls

abbrev pub env_of : (ls : List Local) → Blocks ls → List (Ty × ℕ)
env_of [] bs = []
env_of (local τ h ∷ ls) bs = (τ, bs.0) ∷ env_of ls bs.1

abbrev pub values : List Val → List Held
values [] = []
values (v ∷ vs) = value v ∷ values vs

-- the values are of the first locals' types
abbrev pub Fits : List (Ty × ℕ) → List Val → Type 0
Fits E [] = Unit {0}
Fits [] (v ∷ vs) = ⊥
Fits (e ∷ E) (v ∷ vs) = (T (has_ty e.0 v) × WT v) × Fits E vs

abbrev pub Arguments : List (Ty × ℕ) → List Val → Type 0
Arguments [] vs = ⊥
Arguments (e ∷ E) vs = Fits E vs

-- none is lent
abbrev pub all_free : List (Ty × ℕ) → List Held → Bool
all_free [] hs = true
all_free (e ∷ E) hs = free (first hs) && all_free E (rest hs)

module _ {M : Type 1} {𝓤 : Ura M} (𝓛 : Logic 𝓤) where
  -- what the locals from k on hold is forgotten
  open 𝓛 use {H}

  forgotten : (E : Env 𝓤 H) (hs : List Held) (k : ℕ) → T (all_free E hs) → ent 𝓤 (sem 𝓛 (locals E hs)) (sem 𝓛 (locals E (take k hs)))
  unfolding locals
  forgotten [] hs k z = id⊢ 𝓤 (emp 𝓤)
  forgotten (e ∷ E) hs zero z = mono∗ 𝓤 (to_room 𝓛 (first hs) e.0 e.1 (both (free (first hs)) (all_free E (rest hs)) z).0) (mono_r 𝓤 (H.dies e.0 e.1) (forgotten E (rest hs) zero (both (free (first hs)) (all_free E (rest hs)) z).1))
  forgotten (e ∷ E) [] (suc k) z = id⊢ 𝓤 (sem 𝓛 (locals (e ∷ E) []))
  forgotten (e ∷ E) (h ∷ hs) (suc k) z = mono_r 𝓤 (sem 𝓛 (cell e.0 e.1 h)) (mono_r 𝓤 (H.dies e.0 e.1) (forgotten E hs k (both (free h) (all_free E hs) z).1))

module _ {M : Type 1} {𝓤 : Ura M} {𝓛 : Logic 𝓤} {K : Type 0} where
  open 𝓛 use {H}

  shut : K → {Γ : List (Item 𝓤)} {G : Goal 𝓤 H} (E : Env 𝓤 H) (hs : List Held) → Step K 𝓛 (Locals E hs ∷ Γ) G (‵ (locals E hs) ∷ Γ) G
  shut t E hs = use1 𝓛 (Locals E hs) (guard_i 𝓤 (Frame E hs) (sem 𝓛 (locals E hs)) this)

  pub forgets : K → {Γ : List (Item 𝓤)} {G : Goal 𝓤 H} {E : Env 𝓤 H} {hs : List Held} (k : ℕ) → T (all_free E hs) → Step K 𝓛 (Locals E (take k hs) ∷ Γ) G (Locals E hs ∷ Γ) G
  forgets t {E = E} {hs = hs} k z = step (λ s. learn t (λ _. use1 𝓛 (‵ (locals E (take k hs))) (forgotten 𝓛 E hs k z) $ shut t E (take k hs) $ s))

  module _ {Γ : List (Item 𝓤)} {G : Goal 𝓤 H} (t : K) (e : Ty × ℕ) (E : Env 𝓤 H) (hs : List Held) where
    -- the first local and the others
    parted : Step K 𝓛 (Locals E (rest hs) ∷ ‵ (cell e.0 e.1 (first hs)) ∷ ‵ (fdies e.0 e.1) ∷ Γ) G (Locals (e ∷ E) hs ∷ Γ) G
    unfolding locals
    parted = step (λ s. learn t (λ _. fsplit t $ move t (1 ∷ []) $ fsplit t $ move t (1 ∷ 2 ∷ 0 ∷ []) $ shut t E (rest hs) $ s))

    rejoined : Step K 𝓛 (Locals (e ∷ E) hs ∷ Γ) G (Locals E (rest hs) ∷ ‵ (cell e.0 e.1 (first hs)) ∷ ‵ (fdies e.0 e.1) ∷ Γ) G
    unfolding locals
    rejoined = step (λ s. learn t (λ _. move t (2 ∷ 0 ∷ []) $ fjoin t $ move t (1 ∷ 0 ∷ []) $ fjoin t $ shut t (e ∷ E) hs $ s))

  allocated : K → {Γ : List (Item 𝓤)} (ls : List Local) {Kt : Env 𝓤 H → Goal 𝓤 H} → ((bs : Blocks ls) → Seq K 𝓛 (Locals (env_of ls bs) [] ∷ Γ) (Kt (env_of ls bs))) → Seq K 𝓛 Γ (allocs ls Kt)
  unfolding locals
  allocated t [] k = alloc0 t $ nothing t $ shut t [] [] $ k tt
  allocated t {Γ = Γ} (local τ h ∷ ls) k = alloc1 t (λ b. allocated t {Γ = ‵ (cell τ b room) ∷ ‵ (fdies τ b) ∷ Γ} ls (λ bs. rejoined t (τ, b) (env_of ls bs) [] $ k (b, bs)))

  stored_all : K → {Γ : List (Item 𝓤)} {g : Goal 𝓤 H} (E : Env 𝓤 H) (vs : List Val) → Fits E vs → Seq K 𝓛 (Locals E (values vs) ∷ Γ) g → Seq K 𝓛 (Locals E [] ∷ Γ) (passes E vs g)
  stored_all t E [] fs s = pass0 t $ s
  stored_all t [] (v ∷ vs) fs s = absurd fs
  stored_all t {Γ = Γ} (e ∷ E) (v ∷ vs) fs s = parted t e E [] $ pass1 t (init t 1 refl fs.0) $ stored_all t {Γ = ‵ (cell e.0 e.1 (value v)) ∷ ‵ (fdies e.0 e.1) ∷ Γ} E vs fs.1 (rejoined t e E (value v ∷ values vs) $ s)

  params_stored : K → {Γ : List (Item 𝓤)} {g : Goal 𝓤 H} (E : Env 𝓤 H) (vs : List Val) → Arguments E vs → Seq K 𝓛 (Locals E (room ∷ values vs) ∷ Γ) g → Seq K 𝓛 (Locals E [] ∷ Γ) (params' E vs g)
  params_stored t [] vs fs s = absurd fs
  params_stored t (e ∷ E) vs fs s = params1 t $ parted t e E [] $ stored_all t E vs fs (rejoined t e E (room ∷ values vs) $ s)

  pub begins : K → {Γ : List (Item 𝓤)} {C : Calls 𝓤 H} {Λ : Loops 𝓤 H} (f : Fn) (vs : List Val) {Kf : Val → SProp 𝓤} → ((bs : Blocks f.locals) → Arguments (env_of f.locals bs) vs)
      → ((bs : Blocks f.locals) → Seq K 𝓛 (Locals (env_of f.locals bs) (room ∷ values vs) ∷ Γ) (runs C Λ (env_of f.locals bs) f.body (at_ret (env_of f.locals bs) Kf))) → Seq K 𝓛 Γ (prop (WpFn 𝓤 H C Λ f vs Kf))
  begins t {Γ} {C} {Λ} f vs {Kf} fs k = enter t C Λ f vs Kf $ allocated t f.locals (λ bs. params_stored t (env_of f.locals bs) vs (fs bs) (k bs))

  freed : K → {Γ : List (Item 𝓤)} {g : Goal 𝓤 H} (E : Env 𝓤 H) (hs : List Held) → T (all_free E hs) → Seq K 𝓛 Γ g → Seq K 𝓛 (Locals E hs ∷ Γ) (frees E g)
  freed t [] hs z s = drop t $ free0 t $ s
  freed t (e ∷ E) hs z s = parted t e E hs $ move t (1 ∷ []) $ use1 𝓛 (‵ (froom e.0 e.1 zero)) (to_room 𝓛 (first hs) e.0 e.1 (both (free (first hs)) (all_free E (rest hs)) z).0) $
      move t (0 ∷ 2 ∷ []) $ free1 t $ freed t E (rest hs) (both (free (first hs)) (all_free E (rest hs)) z).1 s

  pub ends : K → {Γ : List (Item 𝓤)} {C : Calls 𝓤 H} {Λ : Loops 𝓤 H} {E : Env 𝓤 H} {hs : List Held} {Kf : Val → SProp 𝓤} {r : Val} → value_at E hs zero ≡ some r → T (all_free E hs) → Step K 𝓛 Γ (prop (Kf r)) (Locals E hs ∷ Γ) (runs C Λ E return (at_ret E Kf))
  ends t {E = E} {hs = hs} e f = step (λ s. returns t (look_in t 0 (local_part t zero e)) $ freed t E hs f s)
