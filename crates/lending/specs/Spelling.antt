-- A type whose values are spelled out as one machine value.
--     Spelling         how, and that it is of the MIR type
--     a_number, nothing_more, a_struct, an_array, a_slice      of usize, (), a declared struct, an array, a `&` slice
-- Assumes `Logic`.
use Rattle.std.proofs.Common.{subst}
use Rattle.std.specs.Prelude.{ℕ, [], ◌∷◌}
use seplogic.Ra.Ura.{Ura}
use mir.Syntax.{w64, Lifetime}
use mir.Val.{Val, vunit, vint}
use base.Fml.{Lft}
use types.Logic.{Logic}
use Rattle.std.specs.Borrow.{RattleType, usize}
use denote.Laws.{Is, Tells, Lawful}
use denote.Plain.{Nothing, uint_Tells, uint_Lawful, Nothing-Tells, Nothing-Lawful}
use denote.Slice.{ShrSlice, shr_slice_vals, shr_slice_Tells, shr_slice_Lawful}
use denote.Array.{Array, array_vals, Array-Tells, Array-Lawful}
use denote.Steps.{only}
use denote.Struct.Declared.{Declared, row}
use denote.Struct.Laws as LL

pub record Spelling {M : Type 1} {𝓤 : Ura M} (𝓛 : Logic 𝓤) (R : RattleType) : Type 1 where
  pub spell : R.Denot → Val
  pub tells : Tells R (Is R) (λ x. spell x ∷ [])
  pub lawful : Lawful 𝓛 R

module _ {M : Type 1} {𝓤 : Ura M} {𝓛 : Logic 𝓤} where
  pub spelled : {R : RattleType} (L : Spelling 𝓛 R) (x : R.Denot) (v : Val) → Is R x (v ∷ []) → Is R x (L.spell x ∷ [])
  spelled {R} L x v is = subst (Is R x) (L.tells x (v ∷ []) is) is

  module _ where
    abbrev pub a_number : Spelling 𝓛 usize
    a_number = record { spell = λ n. vint w64 n; tells = uint_Tells w64; lawful = uint_Lawful 𝓛 w64 }

    abbrev pub nothing_more : Spelling 𝓛 Nothing
    nothing_more = record { spell = λ x. vunit; tells = Nothing-Tells; lawful = Nothing-Lawful 𝓛 }

    abbrev pub a_struct : (D : Declared) (L : LL.Laws D) → Spelling 𝓛 (row D)
    a_struct D L = record { spell = LL.val D L; tells = LL.tells D L; lawful = LL.lawful D L 𝓛 }

    abbrev pub an_array : {R : RattleType} → Spelling 𝓛 R → (n : ℕ) → Spelling 𝓛 (Array R n)
    an_array {R} L n = record { spell = λ xs. only (array_vals (λ x. L.spell x ∷ []) xs); tells = Array-Tells R (λ x. L.spell x ∷ []) L.tells n; lawful = Array-Lawful 𝓛 R L.lawful n }

    abbrev pub a_slice : (ℓ : Lifetime) (κ : Lft) (R : RattleType) → Spelling 𝓛 (ShrSlice ℓ κ R)
    a_slice ℓ κ R = record { spell = λ x. only (shr_slice_vals x); tells = shr_slice_Tells ℓ κ R; lawful = shr_slice_Lawful 𝓛 ℓ κ R }
