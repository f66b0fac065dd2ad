-- Letters and symbols of one column: Latin-1, Greek, and the mathematical operators to the geometric shapes.
use Rattle.std.specs.Prelude.{◌≡◌, ℕ, ◌+◌, ◌<◌, Bool, true, ◌||◌, T, eqb, leb}
use Rattle.std.proofs.Common.{arith, leb→le, eqb-true}
use Rattle.text.specs.Tests.{and_T, every, every_one, or_T, true_T}
use Rattle.text.specs.Utf8.{to, within}
use Rattle.text.specs.Class.{Profile}
use Rattle.text.specs.Width.{profile01, width01}
use Rattle.text.specs.Class.Code.{profile_of}
use Rattle.text.specs.declared.class.Profile as code

abbrev pub symbol : ℕ → Bool
symbol v = within (to 0xA0 0xFF) v || (within (to 0x370 0x3FF) v || within (to 0x2200 0x25FF) v)

pub record SymbolColumns (P : Profile) : Type 0 where
  pub one : (v : ℕ) → symbol v ≡ true → P.width v ≡ 1

narrow : ℕ → Bool
unfolding width01
narrow v = eqb (width01 v) 1

in_range_law : (low high n v : ℕ) → T (every narrow low n) → high < low + n → T (within (to low high) v) → width01 v ≡ 1
unfolding narrow
in_range_law low high n v t k h =
    let w = and_T (leb low v) (leb v high) h in
    eqb-true (width01 v) 1 (every_one narrow n low v t (leb→le _ _ w.0) (omega (arith, leb→le v high w.1)))

pub symbol_columns_law : (p : code.Profile) → SymbolColumns (profile_of p)
unfolding profile_of profile01 every narrow
symbol_columns_law p = record {
  one = λ v e. or_T (within (to 0xA0 0xFF) v) _ (true_T e) (in_range_law 0xA0 0xFF 0x60 v tt (omega arith))
      (λ t. or_T (within (to 0x370 0x3FF) v) (within (to 0x2200 0x25FF) v) t (in_range_law 0x370 0x3FF 0x90 v tt (omega arith)) (in_range_law 0x2200 0x25FF 0x400 v tt (omega arith)));
}
