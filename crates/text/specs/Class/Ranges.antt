-- Tests of the scalars in a list of ranges, and of the scalars from a to b that no range has.
use Rattle.std.specs.Prelude.{◌≡◌, refl, ℕ, suc, ◌-◌, ◌<◌, ◌≤◌, Bool, true, false, ◌&&◌, ◌||◌, List, [], ◌∷◌, T, eqb, leb, ltb}
use Rattle.std.proofs.Common.{arith, leb→le, ltb→lt, ne_eqb}
use Rattle.text.specs.Tests.{and_T, cases, is_false, or_T, true_T, in_range_law, every, every_one}
use Rattle.text.specs.Utf8.{Range, within}
use Rattle.text.specs.Class.{in_any, whitespace, spaces}

-- a test of every scalar in the ranges
unfoldable pub each_in : List Range → (ℕ → Bool) → Bool
unfolding every
each_in [] f = true
each_in (r ∷ rs) f = every f r.low (suc (r.high - r.low)) && each_in rs f

in_one : (r : Range) (x : ℕ) (f : ℕ → Bool) → T (every f r.low (suc (r.high - r.low))) → within r x ≡ true → f x ≡ true
in_one r x f t e = let w = in_range_law r.low r.high x e in every_one f (suc (r.high - r.low)) r.low x t w.0 (let hi = w.1 in omega arith)

pub each_in_law : (rs : List Range) (x : ℕ) (f : ℕ → Bool) → T (each_in rs f) → in_any rs x ≡ true → f x ≡ true
unfolding each_in in_any
each_in_law [] x f t e = absurd (true_T e)
each_in_law (r ∷ []) x f t e = in_one r x f (and_T (every f r.low (suc (r.high - r.low))) _ t).0 e
each_in_law (r ∷ q ∷ rs) x f t e =
    let p = and_T (every f r.low (suc (r.high - r.low))) (each_in (q ∷ rs) f) t in
    cases (within r x) (λ w. in_one r x f p.0 w) (λ w. each_in_law (q ∷ rs) x f p.1 (rw w at e))

-- none of these ranges meets the scalars from a to b
unfoldable pub clear : ℕ → ℕ → List Range → Bool
clear a b [] = true
clear a b (r ∷ rs) = (ltb r.high a || ltb b r.low) && clear a b rs

pub clear_within : (r : Range) (a b x : ℕ) → T (ltb r.high a || ltb b r.low) → a ≤ x → x ≤ b → within r x ≡ false
clear_within r a b x t h k =
    is_false _ (λ w.
    let p = and_T (leb r.low x) (leb x r.high) w in
    let lo : r.low ≤ x = leb→le _ _ p.0 in
    let hi : x ≤ r.high = leb→le _ _ p.1 in
    or_T (ltb r.high a) _ t
    (λ u. let q : r.high < a = ltb→lt _ _ u in omega arith)
    (λ u. let q : b < r.low = ltb→lt _ _ u in omega arith))

pub clear_any : (rs : List Range) (a b x : ℕ) → T (clear a b rs) → a ≤ x → x ≤ b → in_any rs x ≡ false
unfolding clear in_any
clear_any [] a b x t h k = refl
clear_any (r ∷ []) a b x t h k = clear_within r a b x (and_T (ltb r.high a || ltb b r.low) _ t).0 h k
clear_any (r ∷ q ∷ rs) a b x t h k =
    let p = and_T (ltb r.high a || ltb b r.low) (clear a b (q ∷ rs)) t in
    rw (clear_within r a b x p.0 h k) (clear_any (q ∷ rs) a b x p.1 h k)

pub not_one : (c a b x : ℕ) → T (ltb c a || ltb b c) → a ≤ x → x ≤ b → eqb x c ≡ false
not_one c a b x t h k =
    ne_eqb x c (λ e.
    or_T (ltb c a) _ t
    (λ u. let q : c < a = ltb→lt _ _ u in absurd (omega arith))
    (λ u. let q : b < c = ltb→lt _ _ u in absurd (omega arith)))

-- ---- whitespace

-- none of the printable ASCII but 20 is whitespace
pub printable_no_space : (v : ℕ) → 0x21 ≤ v → v ≤ 0x7E → whitespace v ≡ false
unfolding whitespace spaces clear
printable_no_space v lo hi = clear_any spaces 0x21 0x7E v tt lo hi

pub space_is : whitespace 0x20 ≡ true
unfolding whitespace
space_is = refl
