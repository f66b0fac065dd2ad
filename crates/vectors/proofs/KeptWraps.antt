-- What a call of a case leaves of the wraps that are kept, by its name.
use mathlib.Core.Path.{◌≡◌, refl, sym, ◌∙◌}
use Prim.Native.Nat.{ℕ}
use mathlib.Core.Bool.{Bool, true, false, true≢false}
use mathlib.Core.List.{List, [], ◌∷◌}
use lib.Dec.{eqb, eqb_refl}
use Rattle.text.specs.Tests.{cases, is_true}
use Rattle.text.specs.Utf8.{asciis, same_bytes, reads}
use Rattle.text.specs.Utf8.Laws.{reads_is}
use Rattle.text.specs.Utf8.AsciiTexts.{asciis_bytes}
use Rattle.vectors.specs.Cached.{after_rows, after_height, after_call}

same_is : (a b : List ℕ) → same_bytes a b ≡ true → a ≡ b
unfolding reads
same_is a b e = sym (asciis_bytes a) ∙ reads_is (asciis a) b (rw (asciis_bytes a) e)

same_refl : (a : List ℕ) → same_bytes a a ≡ true
unfolding same_bytes
same_refl [] = refl
same_refl (b ∷ s) = rw (is_true (eqb b b) (eqb_refl b)) (same_refl s)

-- as `same` compares
abbrev Same : List ℕ → List ℕ → Bool → Type 0
Same a b r = (r ≡ true → a ≡ b) × (a ≡ b → r ≡ true)

named : (a b : List ℕ) (r : Bool) → Same a b r → r ≡ true → same_bytes a b ≡ true
named a b r w e = rw (w.0 e) (same_refl b)

not_named : (a b : List ℕ) (r : Bool) → Same a b r → r ≡ false → same_bytes a b ≡ false
not_named a b r w e = cases (same_bytes a b) (λ t. absurd (true≢false (sym (w.1 (same_is a b t)) ∙ e))) (λ t. t)

module _ (name wraps wraps' line : List ℕ) (width mode : ℕ) (r : Bool) (f : Same name (0x72 ∷ 0x6F ∷ 0x77 ∷ 0x73 ∷ []) r) where
  pub call_rows : r ≡ true → wraps' ≡ after_rows wraps line width mode → wraps' ≡ after_call name wraps line width mode
  unfolding after_call
  call_rows e p = rw (named _ _ r f e) p

  module _ (q : Bool) (g : Same name (0x68 ∷ 0x65 ∷ 0x69 ∷ 0x67 ∷ 0x68 ∷ 0x74 ∷ []) q) (n : r ≡ false) where
    pub call_height : q ≡ true → wraps' ≡ after_height wraps line width mode → wraps' ≡ after_call name wraps line width mode
    unfolding after_call
    call_height e p = rw (not_named _ _ r f n, named _ _ q g e) p

    pub call_none : q ≡ false → wraps ≡ after_call name wraps line width mode
    unfolding after_call
    call_none e = rw (not_named _ _ r f n, not_named _ _ q g e)
