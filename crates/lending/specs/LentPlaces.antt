-- Places in memory that are lent as a slice for a lifetime of a call, and come back.
--     lends, gets_back         as a `&mut` slice; they come back with what the call left there.        gets_back_last    the same, with the borrow that a call leaves beside it
--     shares, shared_back      as a `&` slice; they come back as they were.        shares_with     the same where what is in the places holds `&mut`s: with tokens of their lifetimes, which come back
--     lent, lent_shared        what the holder keeps meanwhile
--     slice_from, shared_from  the places as a slice.        room_less     fewer places have room
-- A `&` is made by the type's law (`Denote/Shares.antt`).        copied_shared, struct_shared    the law of a struct that is Copy, and of one that holds no `&mut`
-- Assumes `Logic`.
use Rattle.std.specs.Prelude.{◌≡◌, refl, ℕ, ◌≤◌, List, [], ◌∷◌, length}
use Rattle.std.proofs.Common.{subst, lt_of_le_of_lt, mul-le-mul_right}
use seplogic.Ra.Ura.{Ura}
use base.Fraction.{full_share}
use mir.Syntax.{Lifetime}
use base.Logic.{ent, sep, id⊢, emp, fst∗}
use base.Fml.{Lft, GName, Share, Fml, Incl, Incl-refl, Incl-trans, fsep, feq, flft, flent}
use contract.BorrowLft.{meet_⊑_left, meet_⊑_right, ⊑_static}
use ghost.Rules.{Toks, span}
use types.Logic.{Logic, sem, lfts}
use types.Kit.{Item, Goal, Soaks, Seq, Step, step, ‵, raw, ◌⊛◌, some, later, ◌$◌, !, qed, done, move, drop, use0, use1, use2, use3, split, pick, fsplit, fjoin, feq_l, feq_i, await}
use types.Tokens.{lft_new, lft_end, lent_back}
use types.SemTy.{Arr, cells}
use types.Share.{arr_parts}
use Rattle.std.specs.Borrow.{RattleType, Bor, MutBor}
use denote.Memory.{mem, shares as part_of}
use denote.Shares.{Shares}
use denote.Lend.{Held, lends_slice, slice_back, lends_shr_slice}
use denote.Index.{row, whole_in, whole_out}
use denote.Slice.{finally, slice_val, MutSlice, ShrSlice, Room}
use denote.Struct.Declared.{Declared, row as row_of}
use denote.Struct.Laws as LL
use Rattle.lending.specs.Signatures.{last}
use denote.Param.Shared.{Sharables, struct_shares}

module _ (R : RattleType) where
  abbrev pub slice_from : ℕ → ℕ → GName → List R.Denot → MutBor (List R.Denot)
  slice_from l o δ ys = record { ref_ptr = (l, o); ghost_name = δ; now = ys }

  abbrev pub shared_from : ℕ → ℕ → List R.Denot → Bor (List R.Denot)
  shared_from l o ys = record { ref_ptr = (l, o); now = ys }

  abbrev pub lent : List R.Denot → ℕ → ℕ → Lft → GName → Fml
  lent ys l o κ δ = flent κ (Held R (length ys) l o δ)

  abbrev pub lent_shared : List R.Denot → ℕ → ℕ → Lft → Fml
  lent_shared ys l o κ = flent κ ((arr_parts (part_of R) (length ys)).part full_share ys l o)

-- one token more
module _ (t : Lft × Share) where
  span_more : (ts : Toks) {κ : Lft} → Incl (span ts) κ → Incl (span (t ∷ ts)) κ
  span_more [] inc = Incl-trans (⊑_static t.0) inc
  span_more (t' ∷ ts) inc = Incl-trans (meet_⊑_right t.0 (span (t' ∷ ts))) inc

  span_first : (ts : Toks) → Incl (span (t ∷ ts)) t.0
  span_first [] = Incl-refl t.0
  span_first (t' ∷ ts) = meet_⊑_left t.0 (span (t' ∷ ts))

  module _ {M : Type 1} {𝓤 : Ura M} (𝓛 : Logic 𝓤) where
    token_on : (ts : Toks) → ent 𝓤 (sep 𝓤 (sem 𝓛 (flft t.0 t.1)) (lfts 𝓛 ts)) (lfts 𝓛 (t ∷ ts))
    token_on [] = fst∗ 𝓤 (sem 𝓛 (flft t.0 t.1)) (emp 𝓤)
    token_on (t' ∷ ts) = id⊢ 𝓤 _

    token_off : (ts : Toks) → ent 𝓤 (lfts 𝓛 (t ∷ ts)) (sep 𝓤 (sem 𝓛 (flft t.0 t.1)) (lfts 𝓛 ts))
    token_off [] = qed 𝓛 (‵ (flft t.0 t.1) ∷ []) {P = sep 𝓤 (sem 𝓛 (flft t.0 t.1)) (emp 𝓤)} (use0 𝓛 (raw (emp 𝓤)) (id⊢ 𝓤 (emp 𝓤)) $ move ! (1 ∷ 0 ∷ []) $ done !)
    token_off (t' ∷ ts) = id⊢ 𝓤 _

module _ {M : Type 1} {𝓤 : Ura M} {𝓛 : Logic 𝓤} {K : Type 0} (t : K) (R : RattleType) {Γ : List (Item 𝓤)} {G : Goal 𝓤 𝓛.H} (a : Soaks G) (ys : List R.Denot) (l o : ℕ) where
  pub lends : (ℓ : Lifetime) → Room R (length ys) → ((ν : ℕ) (δ : GName) → Seq K 𝓛 (‵ (flft (ν ∷ []) full_share) ∷ ‵ ((MutSlice ℓ (ν ∷ []) R).own_val (slice_from R l o δ ys) (slice_val (l, o) (length ys) ∷ [])) ∷ ‵ (lent R ys l o (ν ∷ []) δ) ∷ Γ) G) → Seq K 𝓛 (‵ (cells (mem R) ys l o) ∷ Γ) G
  lends ℓ fit f = lft_new t a (λ ν. move t (1 ∷ []) $
      use1 𝓛 (later (some (λ (δ : GName). ‵ ((MutSlice ℓ (ν ∷ []) R).own_val (slice_from R l o δ ys) (slice_val (l, o) (length ys) ∷ [])) ⊛ ‵ (lent R ys l o (ν ∷ []) δ)))) (lends_slice 𝓛 R ℓ (ν ∷ []) ys l o fit) $ await t a $
      pick t (λ δ. split t $ move t (2 ∷ []) $ f ν δ))

  pub gets_back : {ν : ℕ} {δ : GName} (zs : List R.Denot) → (length zs ≡ length ys → Seq K 𝓛 (‵ (cells (mem R) zs l o) ∷ Γ) G) → Seq K 𝓛 (‵ (flft (ν ∷ []) full_share) ∷ ‵ (fsep (finally R δ zs) (feq ℕ (length zs) (length ys))) ∷ ‵ (lent R ys l o (ν ∷ []) δ) ∷ Γ) G
  gets_back {ν} {δ} zs f = lft_end t a $ move t (1 ∷ []) $ fsplit t $ move t (2 ∷ 3 ∷ 0 ∷ []) $
      use3 𝓛 (later (‵ ((Arr (mem R) (length ys)).own_at zs l o))) (slice_back 𝓛 R (ν ∷ []) δ zs (length ys) l o) $ await t a $ fsplit t $ feq_l t (λ e. move t (1 ∷ []) $ drop t $ f e)

  -- with the borrow that a call leaves beside the last value
  pub gets_back_last : {ν : ℕ} {δ : GName} (zs : List R.Denot) → (length zs ≡ length ys → Seq K 𝓛 (‵ (cells (mem R) zs l o) ∷ Γ) G) → Seq K 𝓛 (‵ (flft (ν ∷ []) full_share) ∷ ‵ (last (ν ∷ []) R (slice_from R l o δ ys) zs) ∷ ‵ (lent R ys l o (ν ∷ []) δ) ∷ Γ) G
  gets_back_last zs f = move t (1 ∷ []) $ fsplit t $ move t (1 ∷ []) $ drop t $ move t (1 ∷ []) $ gets_back zs f

  pub shares_with : (κ : Lft) → Shares 𝓛 R κ → (ts : Toks) → Incl (span ts) κ → (ℓ : Lifetime) → Room R (length ys) → ((ν : ℕ) → Seq K 𝓛 (‵ (flft (ν ∷ []) full_share) ∷ ‵ ((ShrSlice ℓ (ν ∷ []) R).own_val (shared_from R l o ys) (slice_val (l, o) (length ys) ∷ [])) ∷ ‵ (lent_shared R ys l o (ν ∷ [])) ∷ raw (lfts 𝓛 ts) ∷ Γ) G)
      → Seq K 𝓛 (‵ (cells (mem R) ys l o) ∷ raw (lfts 𝓛 ts) ∷ Γ) G
  shares_with κ law ts inc ℓ fit f = lft_new t a (λ ν. move t (0 ∷ 2 ∷ []) $ use2 𝓛 (raw (lfts 𝓛 ((ν ∷ [], full_share) ∷ ts))) (token_on (ν ∷ [], full_share) 𝓛 ts) $
      move t (1 ∷ []) $ use1 𝓛 (‵ (row R full_share ys l o)) (whole_out 𝓛 R ys l o) $ feq_i t ℕ (length ys) (length ys) refl $ fjoin t $
      use2 𝓛 (later ((‵ ((ShrSlice ℓ (ν ∷ []) R).own_val (shared_from R l o ys) (slice_val (l, o) (length ys) ∷ [])) ⊛ ‵ (lent_shared R ys l o (ν ∷ []))) ⊛ raw (lfts 𝓛 ((ν ∷ [], full_share) ∷ ts))))
      (lends_shr_slice 𝓛 R ℓ (ν ∷ []) full_share ys l o fit κ law ((ν ∷ [], full_share) ∷ ts) (span_more (ν ∷ [], full_share) ts inc) (span_first (ν ∷ [], full_share) ts)) $ await t a $ split t $ move t (1 ∷ []) $
      use1 𝓛 (‵ (flft (ν ∷ []) full_share) ⊛ raw (lfts 𝓛 ts)) (token_off (ν ∷ [], full_share) 𝓛 ts) $ split t $ move t (2 ∷ []) $ split t $ move t (2 ∷ 0 ∷ 1 ∷ 3 ∷ []) $ f ν)

  pub shares : Shares 𝓛 R [] → (ℓ : Lifetime) → Room R (length ys) → ((ν : ℕ) → Seq K 𝓛 (‵ (flft (ν ∷ []) full_share) ∷ ‵ ((ShrSlice ℓ (ν ∷ []) R).own_val (shared_from R l o ys) (slice_val (l, o) (length ys) ∷ [])) ∷ ‵ (lent_shared R ys l o (ν ∷ [])) ∷ Γ) G) → Seq K 𝓛 (‵ (cells (mem R) ys l o) ∷ Γ) G
  shares law ℓ fit f = use0 𝓛 (raw (lfts 𝓛 [])) (id⊢ 𝓤 (emp 𝓤)) $ move t (1 ∷ 0 ∷ []) $ shares_with [] law [] (Incl-refl []) ℓ fit (λ ν. move t (3 ∷ []) $ drop t $ f ν)

  pub shared_back : {ν : ℕ} → Step K 𝓛 (‵ (cells (mem R) ys l o) ∷ Γ) G (‵ (flft (ν ∷ []) full_share) ∷ ‵ (lent_shared R ys l o (ν ∷ [])) ∷ Γ) G
  shared_back = step (λ s. lft_end t a $ lent_back t a $ fsplit t $ drop t $ use1 𝓛 (‵ (cells (mem R) ys l o)) (whole_in 𝓛 R ys l o) $ s)

-- fewer places have room
pub room_less : (R : RattleType) {n k : ℕ} → Room R n → k ≤ n → Room R k
room_less R r h = (lt_of_le_of_lt h r.0, lt_of_le_of_lt (mul-le-mul_right (mem R).size h) r.1)

pub copied_shared : {M : Type 1} {𝓤 : Ura M} (𝓛 : Logic 𝓤) (D : Declared) → LL.Copyables D.parts → Shares 𝓛 (row_of D) []
copied_shared 𝓛 D cs = (LL.copied D cs 𝓛).shares full_share []

-- and of any struct that holds no `&mut`, from its fields' laws
pub struct_shared : {M : Type 1} {𝓤 : Ura M} (𝓛 : Logic 𝓤) (D : Declared) → Sharables D.parts → (row_of D).lives ≡ [] → Shares 𝓛 (row_of D) []
struct_shared 𝓛 D ss e = subst (λ (l : Lft). Shares 𝓛 (row_of D) l) e (struct_shares 𝓛 D ss)
