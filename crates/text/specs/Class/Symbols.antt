-- Symbols of one column have class other.
use Rattle.std.specs.Prelude.{◌≡◌, ℕ, true, T}
use Rattle.std.proofs.Common.{sym}
use Rattle.text.specs.Tests.{in_range_law, is_true, or_T, true_T}
use Rattle.text.specs.Utf8.{to, within}
use Rattle.text.specs.Class.{Profile, controls, extends, number, pictographs}
use Rattle.text.specs.Class.Code.{profile_of}
use Rattle.text.specs.Class.Document01.{other_class, quiet_test}
use Rattle.text.specs.Class.Ranges.{clear}
use Rattle.text.specs.Width.Symbols.{symbol}
use Rattle.text.specs.declared.class.Profile as code

pub record SymbolClasses (P : Profile) : Type 0 where
  pub other : (v : ℕ) → symbol v ≡ true → number (P.class v) ≡ 11

from : (p : code.Profile) (low high v : ℕ) → T (quiet_test low high) → T (within (to low high) v) → number ((profile_of p).class v) ≡ 11
from p low high v t h = let w = in_range_law low high v (is_true _ h) in sym (other_class p low high v t w.0 w.1)

pub symbol_classes : (p : code.Profile) → SymbolClasses (profile_of p)
unfolding quiet_test clear controls extends pictographs
symbol_classes p = record {
  other = λ v e. or_T (within (to 0xA0 0xFF) v) _ (true_T e) (from p 0xA0 0xFF v tt)
      (λ t. or_T (within (to 0x370 0x3FF) v) (within (to 0x2200 0x25FF) v) t (from p 0x370 0x3FF v tt) (from p 0x2200 0x25FF v tt));
}
