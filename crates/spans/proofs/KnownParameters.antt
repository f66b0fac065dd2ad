-- What the known parameters say.
use mathlib.Core.Path.{◌≡◌, refl, sym}
use Prim.Native.Nat.{ℕ, ◌≤◌, ◌<◌}
use native.Mathlib.Omega.{arith}
use mathlib.Core.Bool.{Bool, true, false, ◌&&◌}
use mathlib.Core.List.{List, [], ◌∷◌}
use lib.Dec.{T, leb, ltb, ltb→lt}
use borrow.Author.Tests.{lt-leb, leb-true}
use Rattle.text.specs.Tests.{cases, and_T}
use Rattle.text.specs.Utf8.{to, within}
use Rattle.spans.specs.Sgr.{Known, known, meaning_of}
use Rattle.spans.specs.Sgr.Contracts.{eights}
use Rattle.spans.specs.declared.sgr.Meaning.{Meaning}
use Rattle.spans.specs.declared.sgr.Meaning.TheVariants.{Unknown}

-- ---- no other row

row_out : (k p : ℕ) → (p ≡ k → ⊥) → within (to k k) p ≡ false
row_out k p h = cases (leb k p) (λ e. rw (e, lt-leb p k (omega (arith, leb-true k p e))) refl) (λ e. rw e)

pub other_parameter : (p : ℕ) (z : Meaning) → (p ≡ 0 → ⊥) → (p ≡ 1 → ⊥) → (p ≡ 2 → ⊥) → (p ≡ 3 → ⊥) → (p ≡ 4 → ⊥) → (p ≡ 5 → ⊥) → (p ≡ 6 → ⊥) → (p ≡ 7 → ⊥) → (p ≡ 8 → ⊥) → (p ≡ 9 → ⊥) → (p ≡ 21 → ⊥) → (p ≡ 22 → ⊥) → (p ≡ 23 → ⊥) → (p ≡ 24 → ⊥) → (p ≡ 25 → ⊥) → (p ≡ 27 → ⊥) → (p ≡ 28 → ⊥) → (p ≡ 29 → ⊥) → (p ≡ 38 → ⊥) → (p ≡ 39 → ⊥) → (p ≡ 48 → ⊥) → (p ≡ 49 → ⊥) → (p ≡ 53 → ⊥) → (p ≡ 55 → ⊥) → (p ≡ 58 → ⊥) → (p ≡ 59 → ⊥) → (p ≡ 73 → ⊥) → (p ≡ 74 → ⊥) → (p ≡ 75 → ⊥)
    → z ≡ meaning_of eights p → z ≡ meaning_of known p
unfolding meaning_of known eights
other_parameter p z h0 h1 h2 h3 h4 h5 h6 h7 h8 h9 h21 h22 h23 h24 h25 h27 h28 h29 h38 h39 h48 h49 h53 h55 h58 h59 h73 h74 h75 e =
    rw (row_out 0 p h0, row_out 1 p h1, row_out 2 p h2, row_out 3 p h3, row_out 4 p h4, row_out 5 p h5, row_out 6 p h6, row_out 7 p h7, row_out 8 p h8, row_out 9 p h9, row_out 21 p h21, row_out 22 p h22, row_out 23 p h23, row_out 24 p h24, row_out 25 p h25, row_out 27 p h27, row_out 28 p h28, row_out 29 p h29, row_out 38 p h38, row_out 39 p h39, row_out 48 p h48, row_out 49 p h49, row_out 53 p h53, row_out 55 p h55, row_out 58 p h58, row_out 59 p h59, row_out 73 p h73, row_out 74 p h74, row_out 75 p h75) e

-- ---- above the last row

below : ℕ → List Known → Bool
below h [] = true
below h (r ∷ rs) = ◌&&◌ (ltb r.high h) (below h rs)

within_above : (low high p : ℕ) → high < p → within (to low high) p ≡ false
within_above low high p h = rw (lt-leb p high h) (cases (leb low p) (λ e. rw e) (λ e. rw e))

above : (rs : List Known) (h p : ℕ) → T (below h rs) → h ≤ p → meaning_of rs p ≡ Unknown
unfolding below meaning_of
above [] h p e i = refl
above (r ∷ rs) h p e i =
    let t = and_T (ltb r.high h) (below h rs) e in
    let a : r.high < h = ltb→lt _ _ t.0 in
    rw (within_above r.low r.high p (omega arith)) (above rs h p t.1 i)

pub said_out : (p : ℕ) → 108 ≤ p → Unknown ≡ meaning_of known p
unfolding below known
said_out p h = sym (above known 108 p tt h)
