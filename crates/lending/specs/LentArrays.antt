-- A `&'j mut [T; n]` whose places are lent as a slice, to one call after another, by the steps of LentPlaces.antt.
--     opens_array      the array's places, of which there are n. It takes the token of 'j
--     shuts_array      the reference again, at n elements in those places, and the token
--     Opened           what the holder keeps meanwhile: its borrow, open, with both halves of its ghost variable
-- Assumes `Logic`.
use Rattle.std.specs.Prelude.{◌≡◌, refl, ℕ, List, [], ◌∷◌, length}
use seplogic.Ra.Ura.{Ura}
use base.Fraction.{full_share}
use mir.Syntax.{Lifetime}
use mir.Val.{Val}
use base.Fml.{Lft, Share, Fml, fsep, flft, fobs, fauth, fobor}
use types.Logic.{Logic}
use types.Kit.{Item, Goal, Soaks, Seq, Step, step, ‵, ◌$◌, move, use1, fsplit, fjoin, fsplit3, fjoin3, feq_l, feq_i}
use types.SemTy.{Body, cells}
use types.Share.{arr_parts}
use types.Mut.{open_ref, close_ref}
use Rattle.std.specs.Borrow.{RattleType, Array}
use denote.Memory.{mem, part_at, shares}
use denote.ArrayMemory.{Single, Array-apart, Array-whole}
use denote.Index.{row, whole_in, whole_out}
use denote.Ref.{MutBor, at_last, mut_vals, MutRef}

module _ (R : RattleType) (n : ℕ) (κ : Lft) (q : Share) (x : MutBor (List R.Denot)) where
  abbrev pub Opened : Fml
  Opened = fsep (fobor κ q (Body (mem (Array R n)) x.ref_ptr.0 x.ref_ptr.1 x.ghost_name)) (fsep (fobs x.ghost_name ((Array R n).coded.code x.now)) (fauth x.ghost_name ((Array R n).coded.code x.now)))

module _ {M : Type 1} {𝓤 : Ura M} {𝓛 : Logic 𝓤} {K : Type 0} {Γ : List (Item 𝓤)} {G : Goal 𝓤 𝓛.H} (t : K) (a : Soaks G) (R : RattleType) (n : ℕ) (κ : Lft) (q : Share) (x : MutBor (List R.Denot)) (ℓ : Lifetime) where
  pub opens_array : Single R.mir → (length x.now ≡ n → Seq K 𝓛 (‵ (cells (mem R) x.now x.ref_ptr.0 x.ref_ptr.1) ∷ ‵ (Opened R n κ q x) ∷ Γ) G) → Seq K 𝓛 (‵ ((MutRef ℓ κ (Array R n)).own_val x (mut_vals x)) ∷ ‵ (flft κ q) ∷ Γ) G
  opens_array one f = fsplit3 t $ feq_l t (λ _. open_ref t a (mem (Array R n)) $ use1 𝓛 (‵ ((arr_parts (shares R) n).part full_share x.now x.ref_ptr.0 x.ref_ptr.1)) (Array-apart 𝓛 R full_share one n x.now x.ref_ptr.0 x.ref_ptr.1) $ fsplit t $ feq_l t (λ e.
      use1 𝓛 (‵ (cells (mem R) x.now x.ref_ptr.0 x.ref_ptr.1)) (whole_in 𝓛 R x.now x.ref_ptr.0 x.ref_ptr.1) $ move t (1 ∷ 2 ∷ 3 ∷ []) $ fjoin3 t $ move t (1 ∷ 0 ∷ []) $ f e))

  pub shuts_array : (zs : List R.Denot) → length zs ≡ n → Step K 𝓛 (‵ ((MutRef ℓ κ (Array R n)).own_val (at_last x zs) (mut_vals x)) ∷ ‵ (flft κ q) ∷ Γ) G (‵ (cells (mem R) zs x.ref_ptr.0 x.ref_ptr.1) ∷ ‵ (Opened R n κ q x) ∷ Γ) G
  shuts_array zs e = step (λ s. use1 𝓛 (‵ (row R full_share zs x.ref_ptr.0 x.ref_ptr.1)) (whole_out 𝓛 R zs x.ref_ptr.0 x.ref_ptr.1) $ feq_i t ℕ (length zs) n e $ fjoin t $
      use1 𝓛 (‵ (part_at (Array R n) full_share zs x.ref_ptr.0 x.ref_ptr.1)) (Array-whole 𝓛 R full_share n zs x.ref_ptr.0 x.ref_ptr.1) $ move t (1 ∷ []) $ fsplit3 t $ move t (3 ∷ 0 ∷ 1 ∷ 2 ∷ []) $
      close_ref t a (mem (Array R n)) zs $ feq_i t (List Val) (mut_vals x) (mut_vals x) refl $ fjoin3 t $ s)
