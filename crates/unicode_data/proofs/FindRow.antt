-- The search by halves: rows before `low` and rows from `high` on don't have the scalar.
use Prim.Native.Nat.{ℕ, zero, suc, ◌+◌, ◌*◌, ◌/◌, ◌%◌, ◌-◌, ◌≤◌, ◌<◌}
use native.Mathlib.Omega.{arith}
use native.Mathlib.Numerals.{add-one, add-two}
use mathlib.Core.Path.{◌≡◌, refl, sym, ap, ◌∙◌}
use mathlib.Core.List.{List, [], ◌∷◌, ◌++◌}
use lib.Dec.{T}
use lib.ListN.{length, get_or, take, drop, length-drop, take-append-drop}
use lib.Seq.{drop-cons, drop-drop}
use Rattle.unicode_data.specs.Table.{Row, row, row_of, kind_of, kind_in, rows_of, ascending}
use Rattle.unicode_data.specs.Table.Laws.{none, none_from, here, after}

-- the row whose first number stands at a place
abbrev row_at : List ℕ → ℕ → Row
row_at t i = row (get_or t i 0) (get_or t (i + 1) 0) (get_or t (i + 2) 0 / 4) (get_or t (i + 2) 0 % 4)

abbrev from : List ℕ → ℕ → List Row
from t m = rows_of (drop (m * 3) t)

from_row : (t : List ℕ) (m : ℕ) → m * 3 + 2 < length t → from t m ≡ row_at t (m * 3) ∷ from t (m + 1)
unfolding rows_of
from_row t m h =
    let e : (m + 1) * 3 ≡ suc (suc (suc (m * 3))) = omega arith in
    rw (e, add-one, add-two, drop-cons t (m * 3) 0 (omega arith), drop-cons t (suc (m * 3)) 0 (omega arith), drop-cons t (suc (suc (m * 3))) 0 (omega arith)) refl

none_left : (t : List ℕ) → length t < 3 → rows_of t ≡ []
unfolding rows_of
none_left [] h = refl
none_left (a ∷ []) h = refl
none_left (a ∷ b ∷ []) h = refl
none_left (a ∷ b ∷ c ∷ t) h = absurd (omega arith)

tail_rows_law : (t : List ℕ) → rows_of (drop 3 t) ≡ drop 1 (rows_of t)
unfolding rows_of
tail_rows_law [] = refl
tail_rows_law (a ∷ []) = refl
tail_rows_law (a ∷ b ∷ []) = refl
tail_rows_law (a ∷ b ∷ c ∷ t) = refl

from_is : (m : ℕ) (t : List ℕ) → from t m ≡ drop m (rows_of t)
from_is zero t = refl
from_is (suc m) t =
    let e : suc m * 3 ≡ m * 3 + 3 = omega arith in
    rw (e, ← drop-drop 3 (m * 3) t, tail_rows_law (drop (m * 3) t), from_is m t, drop-drop 1 m (rows_of t), add-one) refl

split : (t : List ℕ) (m : ℕ) → m * 3 + 2 < length t → rows_of t ≡ take m (rows_of t) ++ row_at t (m * 3) ∷ from t (m + 1)
split t m h = sym (take-append-drop m (rows_of t)) ∙ ap (λ (u : List Row). take m (rows_of t) ++ u) (sym (from_is m t) ∙ from_row t m h)

pub record Search (t : List ℕ) (x low high : ℕ) : Type 0 where
  pub order : low ≤ high
  pub end : high * 3 ≤ length t
  pub left : row_of (from t low) x ≡ row_of (rows_of t) x
  pub right : row_of (from t high) x ≡ none x

module _ (t : List ℕ) (x : ℕ) where
  pub begun : Search t x 0 (length t / 3)
  unfolding row_of
  begun =
      record {
        order = omega arith;
        end = omega arith;
        left = refl;
        right = rw (none_left (drop (length t / 3 * 3) t) (simp length-drop (omega arith))) refl;
      }

  pub ended : (low high : ℕ) → Search t x low high → high ≤ low → 45 ≡ kind_in (rows_of t) x
  ended low high s h =
      let e : high ≡ low = omega (arith, s.order) in
      ap kind_of (sym s.right ∙ ap (λ (n : ℕ). row_of (from t n) x) e ∙ s.left)

  module _ (a : T (ascending (rows_of t))) (low high : ℕ) (s : Search t x low high) (less : low < high) where
    abbrev middle : ℕ
    middle = low + (high - low) / 2

    room : middle * 3 + 2 < length t
    room = omega (arith, s.end)

    sorted : T (ascending (take middle (rows_of t) ++ row_at t (middle * 3) ∷ from t (middle + 1)))
    sorted = rw (← split t middle room) a

    pub go_low : x < get_or t (middle * 3) 0 → Search t x low middle
    go_low h =
        record {
          order = omega arith;
          end = omega (arith, s.end);
          left = s.left;
          right = rw (from_row t middle room) (none_from _ _ (take middle (rows_of t)) x sorted h);
        }

    pub go_high : get_or t (middle * 3 + 1) 0 < x → Search t x (middle + 1) high
    go_high h =
        record {
          order = omega arith;
          end = s.end;
          left = sym (after _ _ (take middle (rows_of t)) x sorted h) ∙ ap (λ u. row_of u x) (sym (split t middle room));
          right = s.right;
        }

    pub found : get_or t (middle * 3) 0 ≤ x → x ≤ get_or t (middle * 3 + 1) 0 → get_or t (middle * 3 + 2) 0 ≡ kind_in (rows_of t) x
    found p q =
        let e : row_of (rows_of t) x ≡ row_at t (middle * 3) = ap (λ u. row_of u x) (split t middle room) ∙ here _ _ (take middle (rows_of t)) x sorted p q in
        let k : get_or t (middle * 3 + 2) 0 ≡ kind_of (row_at t (middle * 3)) = omega arith in
        k ∙ ap kind_of (sym e)
