-- The cells of a row's numbers: one by one, in parts, and behind what is written.
use Rattle.std.specs.Prelude.{◌≡◌, true, false, length, take, drop, get_or, replicate}
use Rattle.std.proofs.Math.Path.{refl, sym, ap}
use Rattle.std.proofs.Common.{ap₂, ◌∙◌, length-append, length-take-le, drop-cons}
use Prim.Native.Nat.{ℕ, zero, suc, ◌+◌, ◌-◌, ◌*◌, ◌<◌, ◌≤◌}
use native.Mathlib.Omega.{arith}
use Rattle.std.proofs.Math.Bool.{and-false}
use mathlib.Core.List.{List, [], ◌∷◌, ◌++◌}
use Rattle.std.proofs.Math.Seq.{split_at}
use Rattle.std.proofs.lemmas.List.Edits.{sets, sets-eq}
use Rattle.text.specs.Tests.{cases, and_T, is_true, true_T}
use Rattle.screen.specs.Row.{Cell, plain, blank, is_later, all_later, lost_end, lost_start}
use Rattle.screen.specs.Row.Contracts.{cell_of, cells_in, cell_in, first_column, laters, set_cell, same_numbers}

three : (k : ℕ) → 3 * suc k ≡ suc (suc (suc (3 * k)))
three k = omega arith

module _ (list : List ℕ) where
  pub cells_enough : (k : ℕ) (row : List ℕ) → 3 * k ≤ length row → k ≤ length (cells_in list row)
  unfolding cells_in
  cells_enough zero row h = omega arith
  cells_enough (suc k) [] h = absurd (omega arith)
  cells_enough (suc k) (a ∷ []) h = absurd (omega arith)
  cells_enough (suc k) (a ∷ n ∷ []) h = absurd (omega arith)
  cells_enough (suc k) (a ∷ n ∷ b ∷ row) h = omega (arith, cells_enough k row (omega arith))

  pub cell_at : (i : ℕ) (row : List ℕ) → 3 * i + 2 < length row → cell_in list row i ≡ cell_of list (get_or row (3 * i) 0) (get_or row (3 * i + 1) 0) (get_or row (3 * i + 2) 0)
  unfolding cells_in
  cell_at i [] h = absurd (omega arith)
  cell_at i (a ∷ []) h = absurd (omega arith)
  cell_at i (a ∷ n ∷ []) h = absurd (omega arith)
  cell_at zero (a ∷ n ∷ b ∷ row) h = refl
  cell_at (suc i) (a ∷ n ∷ b ∷ row) h =
      let s : List ℕ = a ∷ n ∷ b ∷ row in
      let e : 3 * suc i + 1 ≡ suc (suc (suc (3 * i + 1))) = omega arith in
      let f : 3 * suc i + 2 ≡ suc (suc (suc (3 * i + 2))) = omega arith in
      cell_at i row (omega arith)
      ∙ sym (ap (λ (m : ℕ). cell_of list (get_or s m 0) (get_or s (3 * suc i + 1) 0) (get_or s (3 * suc i + 2) 0)) (three i)
      ∙ ap (λ (m : ℕ). cell_of list (get_or row (3 * i) 0) (get_or s m 0) (get_or s (3 * suc i + 2) 0)) e
      ∙ ap (λ (m : ℕ). cell_of list (get_or row (3 * i) 0) (get_or row (3 * i + 1) 0) (get_or s m 0)) f)

  cells_take : (k m : ℕ) (row : List ℕ) → m ≡ 3 * k → cells_in list (take m row) ≡ take k (cells_in list row)
  unfolding cells_in
  cells_take zero zero row e = refl
  cells_take zero (suc m) row e = absurd (omega arith)
  cells_take (suc k) zero row e = absurd (omega arith)
  cells_take (suc k) (suc zero) row e = absurd (omega arith)
  cells_take (suc k) (suc (suc zero)) row e = absurd (omega arith)
  cells_take (suc k) (suc (suc (suc m))) [] e = refl
  cells_take (suc k) (suc (suc (suc m))) (a ∷ []) e = refl
  cells_take (suc k) (suc (suc (suc m))) (a ∷ n ∷ []) e = refl
  cells_take (suc k) (suc (suc (suc m))) (a ∷ n ∷ b ∷ row) e = ap (λ (cs : List Cell). cell_of list a n b ∷ cs) (cells_take k m row (omega arith))

  cells_drop : (k m : ℕ) (row : List ℕ) → m ≡ 3 * k → cells_in list (drop m row) ≡ drop k (cells_in list row)
  unfolding cells_in
  cells_drop zero zero row e = refl
  cells_drop zero (suc m) row e = absurd (omega arith)
  cells_drop (suc k) zero row e = absurd (omega arith)
  cells_drop (suc k) (suc zero) row e = absurd (omega arith)
  cells_drop (suc k) (suc (suc zero)) row e = absurd (omega arith)
  cells_drop (suc k) (suc (suc (suc m))) [] e = refl
  cells_drop (suc k) (suc (suc (suc m))) (a ∷ []) e = refl
  cells_drop (suc k) (suc (suc (suc m))) (a ∷ n ∷ []) e = refl
  cells_drop (suc k) (suc (suc (suc m))) (a ∷ n ∷ b ∷ row) e = cells_drop k m row (omega arith)

  cells_append : (k : ℕ) (xs ys : List ℕ) → length xs ≡ 3 * k → cells_in list (xs ++ ys) ≡ cells_in list xs ++ cells_in list ys
  unfolding cells_in
  cells_append zero [] ys h = refl
  cells_append zero (a ∷ xs) ys h = absurd (omega arith)
  cells_append (suc k) [] ys h = absurd (omega arith)
  cells_append (suc k) (a ∷ []) ys h = absurd (omega arith)
  cells_append (suc k) (a ∷ n ∷ []) ys h = absurd (omega arith)
  cells_append (suc k) (a ∷ n ∷ b ∷ xs) ys h = ap (λ (cs : List Cell). cell_of list a n b ∷ cs) (cells_append k xs ys (omega arith))

  -- numbers of k cells written from a column on
  pub cells_written : (k at : ℕ) (row xs : List ℕ) → length xs ≡ 3 * k → 3 * (at + k) ≤ length row
      → cells_in list (sets row (3 * at) xs) ≡ take at (cells_in list row) ++ cells_in list xs ++ drop (at + k) (cells_in list row)
  cells_written k at row xs n h =
      let l : length (take (3 * at) row) ≡ 3 * at = length-take-le (3 * at) row (omega arith) in
      let m : 3 * at + length xs ≡ 3 * (at + k) = omega (arith, n) in
      ap (cells_in list) (sets-eq xs row (3 * at) (omega (arith, n)) ∙ ap (λ (p : ℕ). take (3 * at) row ++ xs ++ drop p row) m)
      ∙ cells_append (at + k) (take (3 * at) row ++ xs) (drop (3 * (at + k)) row) (both (take (3 * at) row) xs l n)
      ∙ ap₂ (λ (a b : List Cell). a ++ b) (cells_append at (take (3 * at) row) xs l ∙ ap (λ (a : List Cell). a ++ cells_in list xs) (cells_take at (3 * at) row refl)) (cells_drop (at + k) (3 * (at + k)) row refl)
    where
      both : (a b : List ℕ) → length a ≡ 3 * at → length b ≡ 3 * k → length (a ++ b) ≡ 3 * (at + k)
      both a b e f = length-append a b ∙ omega (arith, e, f)

  pub cells_same : (k a n b : ℕ) → cells_in list (same_numbers k a n b) ≡ replicate k (cell_of list a n b)
  unfolding cells_in same_numbers
  cells_same zero a n b = refl
  cells_same (suc k) a n b = ap (λ (cs : List Cell). cell_of list a n b ∷ cs) (cells_same k a n b)

pub same_length : (k a n b : ℕ) → length (same_numbers k a n b) ≡ 3 * k
unfolding same_numbers
same_length zero a n b = refl
same_length (suc k) a n b = omega (arith, same_length k a n b)

-- one cell, then those alike behind it
pub same_next : (row : List ℕ) (i a n b : ℕ) (xs : List ℕ) → sets (set_cell row i a n b) (3 * (i + 1)) xs ≡ sets row (3 * i) (a ∷ n ∷ b ∷ xs)
same_next row i a n b xs =
    let d : 3 * (i + 1) ≡ suc (suc (suc (3 * i))) = omega arith in
    let e : 3 * i + 1 ≡ suc (3 * i) = omega arith in
    let f : 3 * i + 2 ≡ suc (suc (3 * i)) = omega arith in
    rw (d, e, f) refl

-- ---- the cells of a wide cluster

all_rest : (c : Cell) (cs : List Cell) → all_later (c ∷ cs) ≡ true → all_later cs ≡ true
unfolding all_later
all_rest c cs e = is_true (all_later cs) (and_T (is_later c) (all_later cs) (true_T e)).1

all_blank : (cs : List Cell) → all_later cs ≡ true → lost_end cs ≡ replicate (length cs) (blank plain)
unfolding lost_end all_later
all_blank [] e = refl
all_blank (c ∷ cs) e =
    let f : all_later cs ≡ true = all_rest c cs e in
    rw f (ap (λ (ds : List Cell). blank plain ∷ ds) (all_blank cs f))

pub first_le : (cs : List Cell) → first_column cs ≤ length cs
unfolding first_column
first_le [] = omega arith
first_le (c ∷ cs) = cases (all_later cs) (λ e. rw e (omega arith)) (λ e. rw e (omega (arith, first_le cs)))

pub lost_end_law : (cs : List Cell) → lost_end cs ≡ take (first_column cs) cs ++ replicate (length cs - first_column cs) (blank plain)
unfolding lost_end first_column
lost_end_law [] = refl
lost_end_law (c ∷ cs) =
    let n : suc (length cs) ≡ suc (length cs) - 0 = omega arith in
    let m : length cs - first_column cs ≡ suc (length cs) - suc (first_column cs) = omega arith in
    cases (all_later cs) (λ e. rw e (ap (λ (ds : List Cell). blank plain ∷ ds) (all_blank cs e) ∙ ap (λ (k : ℕ). replicate k (blank plain)) n))
    (λ e. rw e (ap (λ (ds : List Cell). c ∷ ds) (lost_end_law cs ∙ ap (λ (k : ℕ). take (first_column cs) cs ++ replicate k (blank plain)) m)))

pub lost_start_law : (cs : List Cell) → lost_start cs ≡ replicate (laters cs) (blank plain) ++ drop (laters cs) cs
unfolding lost_start laters
lost_start_law [] = refl
lost_start_law (c ∷ cs) = cases (is_later c) (λ e. rw e (ap (λ (ds : List Cell). blank plain ∷ ds) (lost_start_law cs))) (λ e. rw e refl)

pub laters_le : (cs : List Cell) → laters cs ≤ length cs
unfolding laters
laters_le [] = omega arith
laters_le (c ∷ cs) = cases (is_later c) (λ e. rw e (omega (arith, laters_le cs))) (λ e. rw e (omega arith))

-- ---- found from the right, and from the left

not_all : (xs : List Cell) (c : Cell) (ls : List Cell) → is_later c ≡ false → all_later (xs ++ c ∷ ls) ≡ false
unfolding all_later
not_all [] c ls e = rw e refl
not_all (x ∷ xs) c ls e = rw (not_all xs c ls e) (and-false (is_later x))

first_split : (xs : List Cell) (c : Cell) (ls : List Cell) → all_later ls ≡ true → is_later c ≡ false → first_column (xs ++ c ∷ ls) ≡ length xs
unfolding first_column
first_split [] c ls a e = rw a refl
first_split (x ∷ xs) c ls a e = rw (not_all xs c ls e) (ap suc (first_split xs c ls a e))

pub first_found : (cs : List Cell) (i : ℕ) → i < length cs → all_later (drop (suc i) cs) ≡ true → is_later (get_or cs i (blank plain)) ≡ false → i ≡ first_column cs
first_found cs i h a e =
    sym (ap first_column (split_at cs i (blank plain) h) ∙ first_split (take i cs) (get_or cs i (blank plain)) (drop (suc i) cs) a e ∙ length-take-le i cs (omega arith))

pub first_none : (cs : List Cell) → all_later cs ≡ true → 0 ≡ first_column cs
unfolding first_column all_later
first_none [] a = refl
first_none (c ∷ cs) a = rw (all_rest c cs a) refl

pub later_more : (cs : List Cell) (i : ℕ) → i < length cs → all_later (drop (suc i) cs) ≡ true → is_later (get_or cs i (blank plain)) ≡ true → all_later (drop i cs) ≡ true
unfolding all_later
later_more cs i h a e = rw (drop-cons cs i (blank plain) h, e) a

pub laters_more : (cs : List Cell) (i : ℕ) → i < length cs → is_later (get_or cs i (blank plain)) ≡ true → suc i + laters (drop (suc i) cs) ≡ i + laters (drop i cs)
unfolding laters
laters_more cs i h e = rw (drop-cons cs i (blank plain) h, e) (omega arith)

pub laters_none : (cs : List Cell) (i : ℕ) → i < length cs → is_later (get_or cs i (blank plain)) ≡ false → i ≡ i + laters (drop i cs)
unfolding laters
laters_none cs i h e = rw (drop-cons cs i (blank plain) h, e) (omega arith)
