-- The signature of a function whose parameters are numbers, structs, slices and references, and what a walk has of it, entry by entry.
--     Kind             a parameter: a number, a struct by value, a `&'j [T]`, a `&'j mut [T]`, a `&'j mut T`, as a `&'j mut [T; n]` is
--     signed, ended    the signature, with every parameter kept
--     tokens, parts, lasts     the tokens, the parameters, and what is left in what was lent
-- Assumes nothing.
use Rattle.std.specs.Prelude.{◌≡◌, refl, ℕ, zero, suc, List, [], ◌∷◌, ◌++◌, length}
use Rattle.std.proofs.Common.{sym, subst}
use seplogic.Ra.Ura.{Ura}
use mir.Syntax.{w64, named}
use mir.Val.{Val, vint}
use base.Logic.{SProp, ent, sep, emp, id⊢, via, mono∗, mono_l, mono_r, snd∗, emp∗}
use base.Fml.{Lft, Fml, ftrue, fsep, feq, flft, fres, fbor}
use types.Logic.{Logic, sem}
use contract.Lifetimes.{Lfts, Shares, Within, toks}
use types.Kit.{Item, Goal, Step, step, ‵, raw, mean, ⋆, push, pop, ++⊢, ⊢++}
use types.SemTy.{Arr, Body}
use types.Hole.{Holey}
use denote.RattleType.{RattleType, Denots, Valss, owns}
use denote.Memory.{mem}
use denote.Laws.{Ises, Spells, Tellss, Lawfuls}
use denote.Plain.{uint_Tells, uint_Lawful}
use Rattle.std.specs.Borrow.{usize}
use denote.Ref.{MutBor, mut_vals, mut_Tells, mut_Lawful}
use denote.Slice.{finally, shr_slice_vals, mut_slice_vals, mut_slice_Tells, shr_slice_Tells, mut_slice_Lawful, shr_slice_Lawful}
use denote.Exit.{yes, Exit, unchanged, Last, left}
use denote.Signature.{Slot, Signature, plain, shr_slice_of, mut_slice_of, mut_ref_to, meet_at, types_at}
use denote.Struct.Declared.{Declared, row}
use denote.Struct.Laws as LL
use denote.Triple.End.{all, Fins, lasts_of}
use denote.Triple.Clauses.{Ended}

pub data Kind (n : ℕ) : Type 2 where
  number : Kind n
  copied : (D : Declared) (L : LL.Laws D) → LL.Copyables D.parts → Kind n
  shared : (j : ℕ) → Within n j → RattleType → Kind n
  lent : (j : ℕ) → Within n j → RattleType → Kind n
  lent_one : (j : ℕ) → Within n j → RattleType → Kind n

module _ {n : ℕ} where
  abbrev pub slot : Kind n → Slot n
  slot number = plain (λ _. usize)
  slot (copied D L cs) = plain (λ _. row D)
  slot (shared j ok R) = shr_slice_of (j ∷ []) ok (plain (λ _. R))
  slot (lent j ok R) = mut_slice_of (j ∷ []) ok (plain (λ _. R))
  slot (lent_one j ok R) = mut_ref_to (j ∷ []) ok (plain (λ _. R))

  abbrev pub slots : List (Kind n) → List (Slot n)
  slots [] = []
  slots (k ∷ ks) = slot k ∷ slots ks

  module _ (κs : Lfts n) where
    abbrev pub spelled : (k : Kind n) → ((slot k).row κs).Denot → List Val
    spelled number x = vint w64 x ∷ []
    spelled (copied D L cs) x = LL.vals D L x
    spelled (shared j ok R) x = shr_slice_vals x
    spelled (lent j ok R) x = mut_slice_vals x
    spelled (lent_one j ok R) x = mut_vals x

    abbrev pub spells : (ks : List (Kind n)) → Spells (types_at (slots ks) κs)
    spells [] = tt
    spells (k ∷ ks) = (spelled k, spells ks)

    pub tells : (ks : List (Kind n)) → Tellss (types_at (slots ks) κs) (Ises (types_at (slots ks) κs)) (spells ks)
    tells [] = tt
    tells (number ∷ ks) = (uint_Tells w64, tells ks)
    tells (copied D L cs ∷ ks) = (LL.tells D L, tells ks)
    tells (shared j ok R ∷ ks) = (shr_slice_Tells (named j) (meet_at n (j ∷ []) ok κs) R, tells ks)
    tells (lent j ok R ∷ ks) = (mut_slice_Tells (named j) (meet_at n (j ∷ []) ok κs) R, tells ks)
    tells (lent_one j ok R ∷ ks) = (mut_Tells (named j) (meet_at n (j ∷ []) ok κs) R, tells ks)

    pub laws : {M : Type 1} {𝓤 : Ura M} (𝓛 : Logic 𝓤) (ks : List (Kind n)) → Lawfuls 𝓛 (types_at (slots ks) κs)
    laws 𝓛 [] = tt
    laws 𝓛 (number ∷ ks) = (uint_Lawful 𝓛 w64, laws 𝓛 ks)
    laws 𝓛 (copied D L cs ∷ ks) = (LL.lawful D L 𝓛, laws 𝓛 ks)
    laws 𝓛 (shared j ok R ∷ ks) = (shr_slice_Lawful 𝓛 (named j) (meet_at n (j ∷ []) ok κs) R, laws 𝓛 ks)
    laws 𝓛 (lent j ok R ∷ ks) = (mut_slice_Lawful 𝓛 (named j) (meet_at n (j ∷ []) ok κs) R, laws 𝓛 ks)
    laws 𝓛 (lent_one j ok R ∷ ks) = (mut_Lawful 𝓛 (named j) (meet_at n (j ∷ []) ok κs) R, laws 𝓛 ks)

-- a function's signature
abbrev pub signed : (n : ℕ) → List (Kind n) → Slot n → Signature
signed n ks R = record { lifetimes = n; outlives = []; params = slots ks; result = R }

abbrev pub ended : (n : ℕ) → List (Kind n) → Slot n → Ended
ended n ks R = record { signature = signed n ks R; kept = all yes (slots ks) }

-- what a call leaves in a slice that was lent for κ, or behind a reference: its last value, and the borrow, closed
abbrev pub last : Lft → (R : RattleType) → MutBor (List R.Denot) → List R.Denot → Fml
last κ R x w = fsep (fsep (finally R x.ghost_name w) (feq ℕ (length w) (length x.now))) (fbor κ (Body (Arr (Holey (mem R)) (length x.now)) x.ref_ptr.0 x.ref_ptr.1 x.ghost_name))

abbrev pub last_one : Lft → (R : RattleType) → MutBor R.Denot → R.Denot → Fml
last_one κ R x w = fsep (fres x.ghost_name (R.coded.code w)) (fbor κ (Body (mem R) x.ref_ptr.0 x.ref_ptr.1 x.ghost_name))

-- or in what can be copied
nothing_left : {X : Type 0} (e : Exit X) → e ≡ unchanged → (x : X) (w : Last e x) → left e x w ≡ ftrue
nothing_left {X} e p = subst (λ (d : Exit X). (x : X) (w : Last d x) → left d x w ≡ ftrue) (sym p) (λ x w. refl)

module _ {M : Type 1} {𝓤 : Ura M} where
  abbrev pub tokens : (n : ℕ) → Lfts n → Shares n → List (Item 𝓤)
  tokens zero κs qs = []
  tokens (suc n) κs qs = ‵ (flft κs.0 qs.0) ∷ tokens n κs.1 qs.1

  abbrev pub parts : (Ts : List RattleType) → Denots Ts → Valss Ts → List (Item 𝓤)
  parts [] a vss = []
  parts (T ∷ Ts) a vss = ‵ (T.own_val a.0 vss.0) ∷ parts Ts a.1 vss.1

  module _ {n : ℕ} (κs : Lfts n) where
    abbrev pub lasts : (ks : List (Kind n)) (a : Denots (types_at (slots ks) κs)) → Fins κs (slots ks) (all yes (slots ks)) a → List (Item 𝓤)
    lasts [] a ws = []
    lasts (number ∷ ks) a ws = lasts ks a.1 ws.1
    lasts (copied D L cs ∷ ks) a ws = lasts ks a.1 ws.1
    lasts (shared j ok R ∷ ks) a ws = lasts ks a.1 ws.1
    lasts (lent j ok R ∷ ks) a ws = ‵ (last (meet_at n (j ∷ []) ok κs) R a.0 ws.0) ∷ lasts ks a.1 ws.1
    lasts (lent_one j ok R ∷ ks) a ws = ‵ (last_one (meet_at n (j ∷ []) ok κs) R a.0 ws.0) ∷ lasts ks a.1 ws.1

module _ {M : Type 1} {𝓤 : Ura M} (𝓛 : Logic 𝓤) where
  -- an entry more, on either side
  out : (i : Item 𝓤) (Γ : List (Item 𝓤)) (P : SProp 𝓤) → ent 𝓤 P (⋆ 𝓛 Γ) → ent 𝓤 (sep 𝓤 (mean 𝓛 i) P) (⋆ 𝓛 (i ∷ Γ))
  out i Γ P h = via 𝓤 (sep 𝓤 (mean 𝓛 i) (⋆ 𝓛 Γ)) (mono_r 𝓤 (mean 𝓛 i) h) (push 𝓛 i Γ)

  back : (i : Item 𝓤) (Γ : List (Item 𝓤)) (P : SProp 𝓤) → ent 𝓤 (⋆ 𝓛 Γ) P → ent 𝓤 (⋆ 𝓛 (i ∷ Γ)) (sep 𝓤 (mean 𝓛 i) P)
  back i Γ P h = via 𝓤 (sep 𝓤 (mean 𝓛 i) (⋆ 𝓛 Γ)) (pop 𝓛 i Γ) (mono_r 𝓤 (mean 𝓛 i) h)

  pub tokens_of : (n : ℕ) (κs : Lfts n) (qs : Shares n) → ent 𝓤 (toks 𝓛 n κs qs) (⋆ 𝓛 (tokens n κs qs))
  tokens_of zero κs qs = id⊢ 𝓤 (emp 𝓤)
  tokens_of (suc n) κs qs = out (‵ (flft κs.0 qs.0)) (tokens n κs.1 qs.1) _ (tokens_of n κs.1 qs.1)

  pub of_tokens : (n : ℕ) (κs : Lfts n) (qs : Shares n) → ent 𝓤 (⋆ 𝓛 (tokens n κs qs)) (toks 𝓛 n κs qs)
  of_tokens zero κs qs = id⊢ 𝓤 (emp 𝓤)
  of_tokens (suc n) κs qs = back (‵ (flft κs.0 qs.0)) (tokens n κs.1 qs.1) _ (of_tokens n κs.1 qs.1)

  pub parts_of_law : (Ts : List RattleType) (a : Denots Ts) (vss : Valss Ts) → ent 𝓤 (sem 𝓛 (owns Ts a vss)) (⋆ 𝓛 (parts Ts a vss))
  parts_of_law [] a vss = id⊢ 𝓤 (emp 𝓤)
  parts_of_law (T ∷ Ts) a vss = out (‵ (T.own_val a.0 vss.0)) (parts Ts a.1 vss.1) _ (parts_of_law Ts a.1 vss.1)

  pub of_parts : (Ts : List RattleType) (a : Denots Ts) (vss : Valss Ts) → ent 𝓤 (⋆ 𝓛 (parts Ts a vss)) (sem 𝓛 (owns Ts a vss))
  of_parts [] a vss = id⊢ 𝓤 (emp 𝓤)
  of_parts (T ∷ Ts) a vss = back (‵ (T.own_val a.0 vss.0)) (parts Ts a.1 vss.1) _ (of_parts Ts a.1 vss.1)

  module _ {n : ℕ} (κs : Lfts n) where
    abbrev Left : (ks : List (Kind n)) (a : Denots (types_at (slots ks) κs)) → Type 0
    Left ks a = Fins κs (slots ks) (all yes (slots ks)) a

    abbrev said : (ks : List (Kind n)) (a : Denots (types_at (slots ks) κs)) → Left ks a → SProp 𝓤
    said ks a ws = sem 𝓛 (lasts_of κs (slots ks) (all yes (slots ks)) a ws)

    pub lasts_of_law : (ks : List (Kind n)) (a : Denots (types_at (slots ks) κs)) (ws : Left ks a) → ent 𝓤 (said ks a ws) (⋆ 𝓛 (lasts κs ks a ws))
    lasts_of_law [] a ws = id⊢ 𝓤 (emp 𝓤)
    lasts_of_law (number ∷ ks) a ws = via 𝓤 (said ks a.1 ws.1) (snd∗ 𝓤 (emp 𝓤) (said ks a.1 ws.1)) (lasts_of_law ks a.1 ws.1)
    lasts_of_law (copied D L cs ∷ ks) a ws = via 𝓤 (said ks a.1 ws.1) (snd∗ 𝓤 (sem 𝓛 (left ((row D).exit yes) a.0 ws.0)) (said ks a.1 ws.1)) (lasts_of_law ks a.1 ws.1)
    lasts_of_law (shared j ok R ∷ ks) a ws = via 𝓤 (said ks a.1 ws.1) (snd∗ 𝓤 (emp 𝓤) (said ks a.1 ws.1)) (lasts_of_law ks a.1 ws.1)
    lasts_of_law (lent j ok R ∷ ks) a ws = out (‵ (last (meet_at n (j ∷ []) ok κs) R a.0 ws.0)) (lasts κs ks a.1 ws.1) _ (lasts_of_law ks a.1 ws.1)
    lasts_of_law (lent_one j ok R ∷ ks) a ws = out (‵ (last_one (meet_at n (j ∷ []) ok κs) R a.0 ws.0)) (lasts κs ks a.1 ws.1) _ (lasts_of_law ks a.1 ws.1)

    pub of_lasts : (ks : List (Kind n)) (a : Denots (types_at (slots ks) κs)) (ws : Left ks a) → ent 𝓤 (⋆ 𝓛 (lasts κs ks a ws)) (said ks a ws)
    of_lasts [] a ws = id⊢ 𝓤 (emp 𝓤)
    of_lasts (number ∷ ks) a ws = via 𝓤 (said ks a.1 ws.1) (of_lasts ks a.1 ws.1) (emp∗ 𝓤 (said ks a.1 ws.1))
    of_lasts (copied D L cs ∷ ks) a ws = subst (λ (P : Fml). ent 𝓤 (⋆ 𝓛 (lasts κs ks a.1 ws.1)) (sep 𝓤 (sem 𝓛 P) (said ks a.1 ws.1))) (sym (nothing_left ((row D).exit yes) (LL.still D cs yes) a.0 ws.0))
        (via 𝓤 (said ks a.1 ws.1) (of_lasts ks a.1 ws.1) (emp∗ 𝓤 (said ks a.1 ws.1)))
    of_lasts (shared j ok R ∷ ks) a ws = via 𝓤 (said ks a.1 ws.1) (of_lasts ks a.1 ws.1) (emp∗ 𝓤 (said ks a.1 ws.1))
    of_lasts (lent j ok R ∷ ks) a ws = back (‵ (last (meet_at n (j ∷ []) ok κs) R a.0 ws.0)) (lasts κs ks a.1 ws.1) _ (of_lasts ks a.1 ws.1)
    of_lasts (lent_one j ok R ∷ ks) a ws = back (‵ (last_one (meet_at n (j ∷ []) ok κs) R a.0 ws.0)) (lasts κs ks a.1 ws.1) _ (of_lasts ks a.1 ws.1)

-- two assertions spread out into entries, and gathered again
module _ {M : Type 1} {𝓤 : Ura M} {K : Type 0} (𝓛 : Logic 𝓤) {G : Goal 𝓤 𝓛.H} (Δ Δ' Γ : List (Item 𝓤)) (P Q : SProp 𝓤) where
  pub spreads : ent 𝓤 P (⋆ 𝓛 Δ) → ent 𝓤 Q (⋆ 𝓛 Δ') → Step K 𝓛 (Δ ++ (Δ' ++ Γ)) G (raw P ∷ raw Q ∷ Γ) G
  spreads h h' = step (λ s. record {
    prf = via 𝓤 (⋆ 𝓛 (Δ ++ (Δ' ++ Γ)))
        (via 𝓤 (sep 𝓤 (⋆ 𝓛 Δ) (⋆ 𝓛 (Δ' ++ Γ))) (mono∗ 𝓤 h (via 𝓤 (sep 𝓤 Q (⋆ 𝓛 Γ)) (pop 𝓛 (raw Q) Γ) (via 𝓤 (sep 𝓤 (⋆ 𝓛 Δ') (⋆ 𝓛 Γ)) (mono_l 𝓤 (⋆ 𝓛 Γ) h') (++⊢ 𝓛 Δ' Γ)))) (++⊢ 𝓛 Δ (Δ' ++ Γ))) s.prf;
  })

  pub gathers : ent 𝓤 (⋆ 𝓛 Δ) P → ent 𝓤 (⋆ 𝓛 Δ') Q → Step K 𝓛 (raw P ∷ raw Q ∷ Γ) G (Δ ++ (Δ' ++ Γ)) G
  gathers h h' = step (λ s. record {
    prf = via 𝓤 (⋆ 𝓛 (raw P ∷ raw Q ∷ Γ))
        (via 𝓤 (sep 𝓤 (⋆ 𝓛 Δ) (⋆ 𝓛 (Δ' ++ Γ))) (⊢++ 𝓛 Δ (Δ' ++ Γ)) (mono∗ 𝓤 h (via 𝓤 (sep 𝓤 (⋆ 𝓛 Δ') (⋆ 𝓛 Γ)) (⊢++ 𝓛 Δ' Γ) (via 𝓤 (sep 𝓤 Q (⋆ 𝓛 Γ)) (mono_l 𝓤 (⋆ 𝓛 Γ) h') (push 𝓛 (raw Q) Γ))))) s.prf;
  })
