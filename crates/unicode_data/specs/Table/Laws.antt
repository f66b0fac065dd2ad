-- In an ascending table the rows before a row lie below it, and those after it above.
use Rattle.std.specs.Prelude.{ℕ, suc, ◌/◌, ◌%◌, ◌≤◌, ◌<◌, ◌≡◌, Bool, true, false, ◌&&◌, T, leb}
use Rattle.std.proofs.Common.{arith, ◌∙◌, leb→le}
use Rattle.std.proofs.Math.Path.{refl, ap, subst⁻¹}
use Rattle.std.proofs.Math.Bool.{cond, and-false}
use mathlib.Core.List.{List, [], ◌∷◌, ◌++◌}
use borrow.Author.Tests.{le-leb, lt-leb}
use Rattle.unicode_data.specs.Classes.{other}
use Rattle.unicode_data.specs.Table.{Row, row, has, row_of, class_in, width_in, kind_in, ascending, ascending_from}

-- in no row
abbrev pub none : ℕ → Row
none x = row x x other 1

pub and_T : (a b : Bool) → T (a && b) → T a × T b
and_T true b t = (tt, t)
and_T false b t = absurd t

pub cases {ℓ} : {X : Type ℓ} (b : Bool) → (b ≡ true → X) → (b ≡ false → X) → X
cases true f g = f refl
cases false f g = g refl

-- what the first row and those after it have
pub record First (b : ℕ) (r : Row) (t : List Row) : Type 0 where
  pub from : b ≤ r.low
  pub rises : r.low ≤ r.high
  pub rest : T (ascending_from (suc r.high) t)

pub first : (b : ℕ) (r : Row) (t : List Row) → T (ascending_from b (r ∷ t)) → First b r t
unfolding ascending_from
first b r t a =
    let p = and_T (leb b r.low) _ a in
    let q = and_T (leb r.low r.high) _ p.1 in
    record { from = leb→le _ _ p.0; rises = leb→le _ _ q.0; rest = q.1 }

pub first_back : (b : ℕ) (r : Row) (t : List Row) → First b r t → T (ascending_from b (r ∷ t))
unfolding ascending_from
first_back b r t f = rw (le-leb b r.low f.from, le-leb r.low r.high f.rises) f.rest

past : (r : Row) (x : ℕ) → r.high < x → has r x ≡ false
past r x h = ap (λ b. leb r.low x && b) (lt-leb x r.high h) ∙ and-false (leb r.low x)

before : (r : Row) (x : ℕ) → x < r.low → has r x ≡ false
before r x h = rw (lt-leb r.low x h)

-- a scalar below every row is in none
below : (t : List Row) (b x : ℕ) → T (ascending_from b t) → x < b → row_of t x ≡ none x
unfolding row_of
below [] b x a h = refl
below (r ∷ t) b x a h =
    let f = first b r t a in
    rw (before r x (omega (arith, f.from))) (below t (suc r.high) x f.rest (omega (arith, f.from, f.rises)))

-- rows p, then a row r, then rows q
module _ (r : Row) (q : List Row) where
  low_from : (p : List Row) (b : ℕ) → T (ascending_from b (p ++ r ∷ q)) → b ≤ r.low
  low_from [] b a = (first b r q a).from
  low_from (s ∷ p) b a =
      let f = first b s (p ++ r ∷ q) a in
      omega (arith, low_from p (suc s.high) f.rest, f.from, f.rises)

  pub rest_from_law : (p : List Row) (b : ℕ) → T (ascending_from b (p ++ r ∷ q)) → First 0 r q
  rest_from_law [] b a = let f = first b r q a in record { from = omega arith; rises = f.rises; rest = f.rest }
  rest_from_law (s ∷ p) b a = rest_from_law p (suc s.high) (first b s (p ++ r ∷ q) a).rest

  skip_from : (p : List Row) (b x : ℕ) → T (ascending_from b (p ++ r ∷ q)) → r.low ≤ x → row_of (p ++ r ∷ q) x ≡ row_of (r ∷ q) x
  unfolding row_of
  skip_from [] b x a h = refl
  skip_from (s ∷ p) b x a h =
      let f = first b s (p ++ r ∷ q) a in
      rw (past s x (omega (arith, low_from p (suc s.high) f.rest))) (skip_from p (suc s.high) x f.rest h)

  keep_from : (p : List Row) (b x : ℕ) → T (ascending_from b (p ++ r ∷ q)) → x < r.low → row_of (p ++ r ∷ q) x ≡ row_of p x
  unfolding row_of
  keep_from [] b x a h =
      let f = first b r q a in
      rw (before r x h) (below q (suc r.high) x f.rest (omega (arith, f.rises)))
  keep_from (s ∷ p) b x a h =
      ap (λ (y : Row). cond (has s x) s y) (keep_from p (suc s.high) x (first b s (p ++ r ∷ q) a).rest h)

  module _ (p : List Row) (x : ℕ) (a : T (ascending (p ++ r ∷ q))) where
    pub skip : r.low ≤ x → row_of (p ++ r ∷ q) x ≡ row_of (r ∷ q) x
    unfolding ascending
    skip h = skip_from p 0 x a h

    pub keep : x < r.low → row_of (p ++ r ∷ q) x ≡ row_of p x
    unfolding ascending
    keep h = keep_from p 0 x a h

    -- a scalar below the row is in none from it on
    pub none_from : x < r.low → row_of (r ∷ q) x ≡ none x
    unfolding ascending row_of
    none_from h = keep_from [] 0 x (first_back 0 r q (rest_from_law p 0 a)) h

    pub here : r.low ≤ x → x ≤ r.high → row_of (p ++ r ∷ q) x ≡ r
    unfolding row_of
    here h k = skip h ∙ rw (le-leb r.low x h, le-leb x r.high k) refl

    pub after : r.high < x → row_of (p ++ r ∷ q) x ≡ row_of q x
    unfolding ascending row_of
    after h = skip (omega (arith, (rest_from_law p 0 a).rises)) ∙ rw (past r x h) refl

-- ---- what the row of every scalar has

unfoldable pub every : (Row → Bool) → List Row → Bool
every q [] = true
every q (r ∷ t) = q r && every q t

pub each : (q : Row → Bool) (t : List Row) (x : ℕ) → T (every q t) → T (q (none x)) → T (q (row_of t x))
unfolding every row_of
each q [] x e n = n
each q (r ∷ t) x e n =
    let p = and_T (q r) (every q t) e in
    cases (has r x) (λ h. subst⁻¹ (λ b. T (q (cond b r (row_of t x)))) h p.0) (λ h. subst⁻¹ (λ b. T (q (cond b r (row_of t x)))) h (each q t x p.1 n))

-- class and width out of one number
module _ (t : List Row) (x : ℕ) (w : width_in t x < 4) where
  pub class_of_law : kind_in t x / 4 ≡ class_in t x
  class_of_law = omega (arith, w)

  pub width_of : kind_in t x % 4 ≡ width_in t x
  width_of = omega (arith, w)
