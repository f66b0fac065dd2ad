-- A local array whose first places are lent as a slice, to one call after another, by the steps of LentPlaces.antt.
--     opens, shuts     the array goes out of the locals, as its first places and the others, and comes back
--     lends_none       an array of no places is lent
-- Assumes `Logic`.
use Rattle.std.specs.Prelude.{◌≡◌, length, take, drop as dropped}
use Rattle.std.proofs.Math.Path.{refl}
use Rattle.std.proofs.Common.{sym, ◌∙◌, arith, take-append-drop, lit<}
use Prim.Native.Nat.{ℕ, zero}
use Rattle.std.proofs.Math.Option.{some}
use mathlib.Core.List.{List, [], ◌∷◌, ◌++◌}
use seplogic.Ra.Ura.{Ura}
use base.Fraction.{full_share}
use mir.Syntax.{Ty, ty_array, Lifetime}
use mir.Val.{Val}
use base.Logic.{ent, sep}
use base.Fml.{GName, Fml, fsep, fat, froom, flft}
use prog.Wp.{Env, spot_of}
use types.Logic.{Logic, sem}
use types.Kit.{Item, Goal, Soaks, Seq, Step, step, ‵, ◌⊛◌, ◌$◌, ◌∵◌, !, qed, move, drop, use1, use2, split, rewrite, fsplit, fjoin, fpick, fpack, feq_l, feq_i, done}
use types.SemTy.{cells}
use types.Share.{arr_parts}
use Rattle.std.specs.Borrow.{RattleType, MutBor}
use denote.Memory.{mem, cell_at, part_at, part_of, shares as share_of, lone}
use denote.Array.{Array, array_val}
use denote.ArrayMemory.{Single, Array-apart, Array-whole}
use denote.Steps.{nothing}
use denote.Index.{row, whole_in, whole_out}
use denote.Slice.{slice_val, MutSlice}
use borrow.Table.Elements.{at, cut_app, join_app, same_len}
use Rattle.lending.specs.LentPlaces.{slice_from, lends}
use Rattle.lending.specs.Locals as L
use Rattle.lending.specs.Locals.{away, room, value_at, set_at, Inside, Locals, goes_out, comes_back}

module _ (R : RattleType) where
  -- places in memory, as a slice
  abbrev pub slice_at : ℕ → GName → List R.Denot → MutBor (List R.Denot)
  slice_at l δ ys = slice_from R l zero δ ys

  -- the places behind the first k
  abbrev pub others : ℕ → ℕ → List R.Denot → Fml
  others l k xs = cells (mem R) (dropped k xs) l (at zero (mem R).size (length (take k xs)))

  abbrev pub arr : ℕ → Ty
  arr n = ty_array (lone R.mir) n

  module _ {M : Type 1} {𝓤 : Ura M} (𝓛 : Logic 𝓤) (n : ℕ) where
    -- a local array is its elements in memory, and back
    open 𝓛 use {H}

    into : Single R.mir → (xs : List R.Denot) (u : Val) (l : ℕ) → ent 𝓤 (sep 𝓤 (H.at full_share (arr n) l zero u) (sem 𝓛 ((Array R n).own_val xs (u ∷ [])))) (sem 𝓛 (cells (mem R) xs l zero))
    unfolding part_of
    into one xs u l =
        qed 𝓛 (‵ (fat full_share (arr n) l zero u) ∷ ‵ ((Array R n).own_val xs (u ∷ [])) ∷ []) ∵
        use1 𝓛 (‵ (cell_at full_share (Array R n).mir (u ∷ []) l zero)) (𝓛.laws.at_raw full_share (arr n) l zero u) $ fjoin ! $
        fpack ! (List Val) (λ us. fsep (cell_at full_share (Array R n).mir us l zero) ((Array R n).own_val xs us)) (u ∷ []) $
        use1 𝓛 (‵ ((arr_parts (share_of R) n).part full_share xs l zero)) (Array-apart 𝓛 R full_share one n xs l zero) $ fsplit ! $ drop ! $ use1 𝓛 (‵ (cells (mem R) xs l zero)) (whole_in 𝓛 R xs l zero) $ done !

    outof : (xs : List R.Denot) (l : ℕ) → length xs ≡ n → ent 𝓤 (sem 𝓛 (cells (mem R) xs l zero)) (H.room (arr n) l zero)
    unfolding part_of
    outof xs l e =
        qed 𝓛 (‵ (cells (mem R) xs l zero) ∷ []) ∵ use1 𝓛 (‵ (row R full_share xs l zero)) (whole_out 𝓛 R xs l zero) $ feq_i ! ℕ (length xs) n e $ fjoin ! $
        use1 𝓛 (‵ (part_at (Array R n) full_share xs l zero)) (Array-whole 𝓛 R full_share n xs l zero) $
        fpick ! (λ vs. fsplit ! $ move ! (1 ∷ []) $ fpick ! (λ us. fsplit ! $ fsplit ! $ feq_l ! (λ p. drop ! $ drop ! $
        rewrite ! 0 (λ (ws : List Val). ‵ (cell_at full_share (Array R n).mir ws l zero)) p refl $
        use1 𝓛 (‵ (fat full_share (arr n) l zero (array_val us))) (𝓛.laws.raw_at full_share (arr n) l zero (array_val us)) $ use1 𝓛 (‵ (froom (arr n) l zero)) (𝓛.laws.at_room (arr n) l zero (array_val us)) $ done !)))

module _ {M : Type 1} {𝓤 : Ura M} {𝓛 : Logic 𝓤} {K : Type 0} (t : K) (R : RattleType) {Γ : List (Item 𝓤)} {G : Goal 𝓤 𝓛.H} where
  open 𝓛 use {H}

  module _ {E : Env 𝓤 H} {hs : List L.Held} (i n k : ℕ) (xs : List R.Denot) (p : (spot_of 𝓤 H E i).0 ≡ arr R n) where
    pub opens : Single R.mir → {u : Val} → value_at E hs i ≡ some u
        → Step K 𝓛 (‵ (cells (mem R) (take k xs) (spot_of 𝓤 H E i).1 zero) ∷ ‵ (others R (spot_of 𝓤 H E i).1 k xs) ∷ Locals E (set_at i away hs) ∷ Γ) G (Locals E hs ∷ ‵ ((Array R n).own_val xs (u ∷ [])) ∷ Γ) G
    opens one {u} e = step (λ s. goes_out t i e $ rewrite t 0 (λ (τ : Ty). ‵ (fat full_share τ (spot_of 𝓤 H E i).1 zero u)) p refl $ move t (0 ∷ 2 ∷ []) $
        use2 𝓛 (‵ (cells (mem R) xs (spot_of 𝓤 H E i).1 zero)) (into R 𝓛 n one xs u (spot_of 𝓤 H E i).1) $
        rewrite t 0 (λ (ys : List R.Denot). ‵ (cells (mem R) ys (spot_of 𝓤 H E i).1 zero)) (sym (take-append-drop k xs)) refl $
        use1 𝓛 (‵ (cells (mem R) (take k xs) (spot_of 𝓤 H E i).1 zero) ⊛ ‵ (others R (spot_of 𝓤 H E i).1 k xs)) (cut_app 𝓛 (mem R) (take k xs) (dropped k xs) (spot_of 𝓤 H E i).1 zero) $ split t $ s)

    pub shuts : (ys : List R.Denot) → length ys ≡ length (take k xs) → length xs ≡ n → Inside E i
        → Step K 𝓛 (Locals E (set_at i room hs) ∷ Γ) G (‵ (cells (mem R) ys (spot_of 𝓤 H E i).1 zero) ∷ ‵ (others R (spot_of 𝓤 H E i).1 k xs) ∷ Locals E hs ∷ Γ) G
    shuts ys e m z = step (λ s. rewrite t 1 (λ (j : ℕ). ‵ (cells (mem R) (dropped k xs) (spot_of 𝓤 H E i).1 (at zero (mem R).size j))) (sym e) refl $
        use2 𝓛 (‵ (cells (mem R) (ys ++ dropped k xs) (spot_of 𝓤 H E i).1 zero)) (join_app 𝓛 (mem R) ys (dropped k xs) (spot_of 𝓤 H E i).1 zero) $
        use1 𝓛 (‵ (froom (arr R n) (spot_of 𝓤 H E i).1 zero)) (outof R 𝓛 n (ys ++ dropped k xs) (spot_of 𝓤 H E i).1 (same_len k xs ys e ∙ m)) $
        rewrite t 0 (λ (τ : Ty). ‵ (froom τ (spot_of 𝓤 H E i).1 zero)) (sym p) refl $ comes_back t i z $ s)

-- a local array of no places, lent
module _ {M : Type 1} {𝓤 : Ura M} {𝓛 : Logic 𝓤} {K : Type 0} {Γ : List (Item 𝓤)} {G : Goal 𝓤 𝓛.H} (t : K) (R : RattleType) (a : Soaks G) (l : ℕ) (ℓ : Lifetime) where
  pub lends_none : ((ν : ℕ) (δ : GName) → Seq K 𝓛 (‵ (flft (ν ∷ []) full_share) ∷ ‵ ((MutSlice ℓ (ν ∷ []) R).own_val (slice_at R l δ []) (slice_val (l, zero) zero ∷ [])) ∷ Γ) G) → Seq K 𝓛 Γ G
  lends_none f = nothing t $ lends t R a [] l zero ℓ (lit< tt, omega arith) (λ ν δ. move t (2 ∷ []) $ drop t $ f ν δ)
