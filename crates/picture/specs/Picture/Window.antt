-- Things side by side, each so many columns wide: those in a window of columns, and columns that are within none of them.
use Rattle.std.specs.Prelude.{◌≡◌, ℕ, ◌+◌, ◌≤◌, ◌<◌, true, false, cond, ◌&&◌, leb}
use Rattle.std.proofs.Math.Path.{refl, ap}
use Rattle.std.proofs.Common.{◌∙◌, subst}
use native.Mathlib.Omega.{arith}
use Rattle.std.proofs.Math.Bool.{and-false}
use mathlib.Core.List.{List, [], ◌∷◌, ◌++◌, map}
use Rattle.std.proofs.Math.Dec.{ltb}
use borrow.Author.Tests.{leb-true, leb-false, le-leb, lt-leb, lt-ltb, le-ltb}
use Rattle.text.specs.Tests.{cases}
use Rattle.text.specs.Each.{All, all_cons}
use Rattle.spans.specs.Spans.Laws.{map_append}
use Rattle.columns.specs.Columns.Wrapping.{total}

within_window : (o l c : ℕ) → o ≤ c → c < l → leb o c && ltb c l ≡ true
within_window o l c h k = rw (le-leb o c h, lt-ltb c l k)

left_of : (o l c : ℕ) → c < o → leb o c && ltb c l ≡ false
left_of o l c h = rw (lt-leb o c h)

right_of : (o l c : ℕ) → l ≤ c → leb o c && ltb c l ≡ false
right_of o l c h = rw (le-ltb c l h, and-false (leb o c))

-- widths above 0
abbrev pub SomeWidth : List ℕ → Type 0
SomeWidth ws = All (λ (w : ℕ). 1 ≤ w) ws

pub total_append : (vs ws : List ℕ) → total (vs ++ ws) ≡ total vs + total ws
unfolding total
total_append [] ws = omega arith
total_append (v ∷ vs) ws = omega (arith, total_append vs ws)

module _ {A : Type 0} (wide : A → ℕ) where
  abbrev pub columns : List A → ℕ
  columns xs = total (map wide xs)

  -- those that begin from column o on and left of column l, the first beginning at column c
  unfoldable pub inside : (o l c : ℕ) → List A → List A
  inside o l c [] = []
  inside o l c (x ∷ xs) = let rest : List A = inside o l (c + wide x) xs in cond (leb o c && ltb c l) (x ∷ rest) rest

  pub columns_append : (xs ys : List A) → columns (xs ++ ys) ≡ columns xs + columns ys
  columns_append xs ys = ap total (map_append wide xs ys) ∙ total_append (map wide xs) (map wide ys)

  pub inside_append : (o l c : ℕ) (xs ys : List A) → inside o l c (xs ++ ys) ≡ inside o l c xs ++ inside o l (c + columns xs) ys
  unfolding total inside
  inside_append o l c [] ys = let e : c ≡ c + 0 = omega arith in ap (λ (n : ℕ). inside o l n ys) e
  inside_append o l c (x ∷ xs) ys =
      let e : c + wide x + columns xs ≡ c + (wide x + columns xs) = omega arith in
      let r : inside o l (c + wide x) (xs ++ ys) ≡ inside o l (c + wide x) xs ++ inside o l (c + (wide x + columns xs)) ys = inside_append o l (c + wide x) xs ys ∙ ap (λ (n : ℕ). inside o l (c + wide x) xs ++ inside o l n ys) e in
      cases (leb o c && ltb c l) (λ t. rw (t, r)) (λ t. rw (t, r))

  -- none right of the window, or left of it
  pub inside_right : (o l c : ℕ) (xs : List A) → l ≤ c → inside o l c xs ≡ []
  unfolding inside
  inside_right o l c [] h = refl
  inside_right o l c (x ∷ xs) h = rw (right_of o l c h) (inside_right o l (c + wide x) xs (omega arith))

  pub inside_left : (o l c : ℕ) (xs : List A) → SomeWidth (map wide xs) → c + columns xs ≤ o → inside o l c xs ≡ []
  unfolding total inside
  inside_left o l c [] a h = refl
  inside_left o l c (x ∷ xs) (all_cons w a) h = rw (left_of o l c (omega arith)) (inside_left o l (c + wide x) xs a (omega arith))

  -- all in a window that holds them
  pub inside_all : (o l c : ℕ) (xs : List A) → SomeWidth (map wide xs) → o ≤ c → c + columns xs ≤ l → inside o l c xs ≡ xs
  unfolding total inside
  inside_all o l c [] a h k = refl
  inside_all o l c (x ∷ xs) (all_cons w a) h k = rw (within_window o l c h (omega arith), inside_all o l (c + wide x) xs a (omega arith) (omega arith))

  -- a window in two parts
  later : (a b l c : ℕ) (xs : List A) → a ≤ b → b ≤ c → inside b l c xs ≡ inside a l c xs
  unfolding inside
  later a b l c [] h k = refl
  later a b l c (x ∷ xs) h k = rw (le-leb a c (omega arith), le-leb b c k, later a b l (c + wide x) xs h (omega arith))

  pub inside_parts : (a b l c : ℕ) (xs : List A) → a ≤ b → b ≤ l → inside a b c xs ++ inside b l c xs ≡ inside a l c xs
  unfolding inside
  inside_parts a b l c [] h k = refl
  inside_parts a b l c (x ∷ xs) h k =
      cases (leb b c)
      (λ e. let m = leb-true b c e in ap (λ (ys : List A). ys ++ inside b l c (x ∷ xs)) (inside_right a b c (x ∷ xs) m) ∙ later a b l c (x ∷ xs) h m)
      (λ e.
      let m = leb-false b c e in
      let r = inside_parts a b l (c + wide x) xs h k in
      cases (leb a c) (λ f. rw (f, left_of b l c m, lt-ltb c b m, lt-ltb c l (omega arith), r)) (λ f. rw (f, left_of b l c m, r)))

-- ---- columns within none of them

-- column x is within none of these widths, the first beginning at column c
unfoldable pub Outside : (x c : ℕ) → List ℕ → Type 0
Outside x c [] = Unit {0}
Outside x c (w ∷ ws) = (c < x → c + w ≤ x) × Outside x (c + w) ws

pub outside_before : (x c : ℕ) (ws : List ℕ) → x ≤ c → Outside x c ws
unfolding Outside
outside_before x c [] h = tt
outside_before x c (w ∷ ws) h = (λ k. omega arith, outside_before x (c + w) ws (omega arith))

pub outside_append : (x c : ℕ) (vs ws : List ℕ) → Outside x c vs → Outside x (c + total vs) ws → Outside x c (vs ++ ws)
unfolding total Outside
outside_append x c [] ws o p = let e : c + 0 ≡ c = omega arith in subst (λ (n : ℕ). Outside x n ws) e p
outside_append x c (v ∷ vs) ws o p =
    let e : c + (v + total vs) ≡ c + v + total vs = omega arith in
    (o.0, outside_append x (c + v) vs ws o.1 (subst (λ (n : ℕ). Outside x n ws) e p))

pub outside_parts : (x c : ℕ) (vs ws : List ℕ) → Outside x c (vs ++ ws) → Outside x c vs × Outside x (c + total vs) ws
unfolding total Outside
outside_parts x c [] ws o = let e : c ≡ c + 0 = omega arith in (tt, subst (λ (n : ℕ). Outside x n ws) e o)
outside_parts x c (v ∷ vs) ws o =
    let e : c + v + total vs ≡ c + (v + total vs) = omega arith in
    let r = outside_parts x (c + v) vs ws o.1 in
    ((o.0, r.0), subst (λ (n : ℕ). Outside x n ws) e r.1)

pub outside_behind : (x c : ℕ) (ws : List ℕ) → c + total ws ≤ x → Outside x c ws
unfolding total Outside
outside_behind x c [] h = tt
outside_behind x c (w ∷ ws) h = (λ k. omega arith, outside_behind x (c + w) ws (omega arith))
