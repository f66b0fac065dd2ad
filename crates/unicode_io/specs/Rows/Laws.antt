-- One row after the other gives all rows.
use Rattle.std.specs.Prelude.{◌≡◌, ℕ, suc, ◌+◌, ◌-◌, ◌<◌, ◌≤◌, Bool, true, false, cond, ◌⊎◌, List, [], ◌∷◌, length, drop, ◌==◌, ◌≢◌, slice_index, slice_index_or, Option, Some, None, is_some}
use Rattle.std.specs.List.{prefix_len}
use Rattle.std.proofs.Math.Path.{refl}
use Rattle.std.proofs.Common.{sym, ap, ◌∙◌, add-zero, add-one, arith, inl, inr, ⊎_elim, length-drop, drop_of_length-le, drop-cons, drop-drop, get_or-drop}
use borrow.Author.Tests.{eq-eqb, ne_eqb, eqb-true, eqb-false, lt-ltb, le-ltb}
use Rattle.unicode_io.specs.Tests.{le_or_lt, never}
use Rattle.unicode_io.specs.Rows.{row_in, row, grown, runs, shown, rows_from, leading, row_at, next_row}
use Rattle.unicode_io.specs.declared.rows.Row.{Row}

-- ---- the kinds in front

leading_is : (k : ℕ) (l : List ℕ) → prefix_len (λ (x : ℕ). x == k) l ≡ leading k l
unfolding leading
leading_is k [] = refl
leading_is k (x ∷ l) = let e : 1 + prefix_len (λ (y : ℕ). y == k) l ≡ suc (leading k l) = omega (arith, leading_is k l) in ap (λ (n : ℕ). cond (x == k) n 0) e

-- ---- the end of a run, place by place

pub record Running (kinds : List ℕ) (at kind i : ℕ) : Type 0 where
  pub work : i + leading kind (drop i kinds) ≡ at + leading kind (drop at kinds)

pub running_begins : (kinds : List ℕ) (at kind : ℕ) → Running kinds at kind at
running_begins kinds at kind = record { work = refl }

module _ (kinds : List ℕ) (at kind i : ℕ) (s : Running kinds at kind i) where
  pub running_turn : i < length kinds → slice_index kinds i ≡ kind → Running kinds at kind (i + 1)
  unfolding leading
  running_turn h e =
      let p : leading kind (drop i kinds) ≡ suc (leading kind (drop (i + 1) kinds)) = rw (drop-cons kinds i 0 h, eq-eqb (slice_index kinds i) kind e, add-one) refl in
      record { work = omega (arith, p, s.work) }

  pub running_stops : i < length kinds → (slice_index kinds i ≢ kind) → i ≡ at + leading kind (drop at kinds)
  unfolding leading
  running_stops h e =
      let p : leading kind (drop i kinds) ≡ 0 = rw (drop-cons kinds i 0 h, ne_eqb (slice_index kinds i) kind e) refl in
      omega (arith, p, s.work)

  pub running_ends : length kinds ≤ i → i ≡ at + leading kind (drop at kinds)
  unfolding leading
  running_ends h = let p : leading kind (drop i kinds) ≡ 0 = rw (drop_of_length-le kinds h) refl in omega (arith, p, s.work)

-- ---- a row

module _ (kinds : List ℕ) (at low : ℕ) (e : low ≡ at + leading 45 (drop at kinds)) where
  pub row_found : (kind end : ℕ) → low < length kinds → kind ≡ slice_index kinds low → end ≡ low + leading kind (drop low kinds) → row low end kind ≡ next_row at kinds
  unfolding next_row row_at
  row_found kind end h k p = rw (← e, lt-ltb low (length kinds) h, ← k, p) refl

  pub row_none : length kinds ≤ low → row low low 45 ≡ next_row at kinds
  unfolding next_row row_at
  row_none h = rw (← e, le-ltb low (length kinds) h) refl

-- ---- as the code answers

not_empty : (low n k : ℕ) → row_in (row low (low + suc n) k) ≡ Some (row low (low + suc n) k)
not_empty low n k = rw (ne_eqb low (low + suc n) (λ z. omega (arith, z))) refl

none_in : (low k : ℕ) → None ≡ row_in (row low low k)
none_in low k = rw (eq-eqb low low refl) refl

module _ (kinds : List ℕ) (at : ℕ) where
  module _ (low : ℕ) (e : low ≡ at + prefix_len (λ (x : ℕ). x == 45) (drop at kinds)) where
    low_is : low ≡ at + leading 45 (drop at kinds)
    low_is = e ∙ ap (λ (k : ℕ). at + k) (leading_is 45 (drop at kinds))

    pub found_none : length kinds ≤ low → None ≡ row_in (next_row at kinds)
    found_none h = none_in low 45 ∙ ap row_in (row_none kinds at low low_is h)

    pub found_row : (end : ℕ) → low < length kinds → end ≡ low + prefix_len (λ (x : ℕ). x == slice_index kinds low) (drop low kinds) → Some (row low end (slice_index kinds low)) ≡ row_in (next_row at kinds)
    unfolding leading
    found_row end h p =
        let k : ℕ = slice_index kinds low in
        let n : ℕ = leading k (drop (suc low) kinds) in
        let r : leading k (drop low kinds) ≡ suc n = rw (drop-cons kinds low 0 h, eq-eqb k k refl) refl in
        let z : end ≡ low + suc n = p ∙ ap (λ (i : ℕ). low + i) (leading_is k (drop low kinds) ∙ r) in
        rw z (sym (not_empty low n k) ∙ ap row_in (row_found kinds at low low_is k (low + suc n) h refl (ap (λ (i : ℕ). low + i) (sym r))))

-- a row that is answered is not empty
some_row : (r x : Row) → row_in r ≡ Some x → (x ≡ r) × (r.low ≢ r.end)
some_row r x e = by_case (r.low == r.end) refl e
  where
    got : Option Row → Row
    got None = r
    got (Some y) = y

    by_case : (t : Bool) → (r.low == r.end) ≡ t → cond t None (Some r) ≡ Some x → (x ≡ r) × (r.low ≢ r.end)
    by_case true q p = absurd (never (ap is_some p))
    by_case false q p = (sym (ap got p), eqb-false r.low r.end q)

no_row : (r : Row) → row_in r ≡ None → r.low ≡ r.end
no_row r e = by_case (r.low == r.end) refl e
  where
    by_case : (t : Bool) → (r.low == r.end) ≡ t → cond t None (Some r) ≡ None → r.low ≡ r.end
    by_case true q p = eqb-true r.low r.end q
    by_case false q p = absurd (never (sym (ap is_some p)))

-- ---- a run is as long as its kind leads

split_by : (ks : List ℕ) (at k x : ℕ) (t : Bool) → (x == k) ≡ t → (h : runs (suc at) (x ∷ ks) ≡ row (suc at) (suc at + suc (leading x ks)) x ∷ runs (suc at + suc (leading x ks)) (drop (leading x ks) ks))
    → cond t (row at (suc at + suc (leading x ks)) k ∷ runs (suc at + suc (leading x ks)) (drop (leading x ks) ks)) (row at (suc at) k ∷ row (suc at) (suc at + suc (leading x ks)) x ∷ runs (suc at + suc (leading x ks)) (drop (leading x ks) ks))
    ≡ row at (at + suc (cond t (suc (leading k ks)) 0)) k ∷ runs (at + suc (cond t (suc (leading k ks)) 0)) (drop (cond t (suc (leading k ks)) 0) (x ∷ ks))
split_by ks at k x true e h =
    let q : x ≡ k = eqb-true x k e in
    let a : suc at + suc (leading k ks) ≡ at + suc (suc (leading k ks)) = omega arith in
    rw (q, a) refl
split_by ks at k x false e h =
    let a : at + 1 ≡ suc at = omega arith in
    rw a (ap (λ (l : List Row). row at (suc at) k ∷ l) (sym h))

runs_split : (ks : List ℕ) (at k : ℕ) → runs at (k ∷ ks) ≡ row at (at + suc (leading k ks)) k ∷ runs (at + suc (leading k ks)) (drop (leading k ks) ks)
unfolding runs grown leading
runs_split [] at k = let e : at + 1 ≡ suc at = omega arith in rw e refl
runs_split (x ∷ ks) at k = let h = runs_split ks (suc at) x in ap (grown at k) h ∙ split_by ks at k x (x == k) refl h

-- ---- rows from a place on

after_leading : (k : ℕ) (l : List ℕ) → leading k l < length l → slice_index l (leading k l) ≢ k
unfolding leading
after_leading k [] h e = absurd (omega arith)
after_leading k (x ∷ l) h e = by_case (x == k) refl h e (after_leading k l)
  where
    by_case : (t : Bool) → (x == k) ≡ t → cond t (suc (leading k l)) 0 < suc (length l) → slice_index (x ∷ l) (cond t (suc (leading k l)) 0) ≡ k → (leading k l < length l → slice_index l (leading k l) ≢ k) → ⊥
    by_case true p q r hyp = hyp (omega arith) r
    by_case false p q r hyp = eqb-false x k p r

rows_is : (at : ℕ) (l : List ℕ) → rows_from at l ≡ shown (runs at l)
unfolding rows_from
rows_is at l = refl

leading_yes : (k x : ℕ) (l : List ℕ) → x ≡ k → leading k (x ∷ l) ≡ suc (leading k l)
unfolding leading
leading_yes k x l e = rw (eq-eqb x k e) refl

leading_no : (k x : ℕ) (l : List ℕ) → (x ≢ k) → leading k (x ∷ l) ≡ 0
unfolding leading
leading_no k x l e = rw (ne_eqb x k e) refl

leading_none : (k : ℕ) → leading k [] ≡ 0
unfolding leading
leading_none k = refl

shown_plain : (r : Row) (rs : List Row) → r.kind ≡ 45 → shown (r ∷ rs) ≡ shown rs
unfolding shown
shown_plain r rs e = rw (eq-eqb r.kind 45 e) refl

shown_row : (r : Row) (rs : List Row) → (r.kind ≢ 45) → shown (r ∷ rs) ≡ r ∷ shown rs
unfolding shown
shown_row r rs e = rw (ne_eqb r.kind 45 e) refl

nothing_left : (at : ℕ) → rows_from at [] ≡ []
unfolding rows_from runs shown
nothing_left at = refl

plain_by : (x : ℕ) (l : List ℕ) (at : ℕ) (t : Bool) → (x == 45) ≡ t → rows_from at (x ∷ l) ≡ rows_from (at + leading 45 (x ∷ l)) (drop (leading 45 (x ∷ l)) (x ∷ l))
plain_by x l at true e =
    let q : x ≡ 45 = eqb-true x 45 e in
    let n : ℕ = suc (leading x l) in
    let p : rows_from at (x ∷ l) ≡ rows_from (at + n) (drop (leading x l) l) = rows_is at (x ∷ l) ∙ ap shown (runs_split l at x) ∙ shown_plain (row at (at + n) x) (runs (at + n) (drop (leading x l) l)) q ∙ sym (rows_is (at + n) (drop (leading x l) l)) in
    rw (leading_yes 45 x l q) (p ∙ ap (λ (k : ℕ). rows_from (at + suc (leading k l)) (drop (leading k l) l)) q)
plain_by x l at false e = rw (leading_no 45 x l (eqb-false x 45 e)) (ap (λ (n : ℕ). rows_from n (x ∷ l)) (sym (add-zero at)))

plain_first : (l : List ℕ) (at : ℕ) → rows_from at l ≡ rows_from (at + leading 45 l) (drop (leading 45 l) l)
plain_first [] at = rw (leading_none 45) (ap (λ (n : ℕ). rows_from n []) (sym (add-zero at)))
plain_first (x ∷ l) at = plain_by x l at (x == 45) refl

row_first : (l : List ℕ) (at k : ℕ) → (k ≢ 45) → rows_from at (k ∷ l) ≡ row at (at + suc (leading k l)) k ∷ rows_from (at + suc (leading k l)) (drop (leading k l) l)
row_first l at k n =
    let m : ℕ = at + suc (leading k l) in
    rows_is at (k ∷ l) ∙ ap shown (runs_split l at k) ∙ shown_row (row at m k) (runs m (drop (leading k l) l)) n ∙ ap (λ (rs : List Row). row at m k ∷ rs) (sym (rows_is m (drop (leading k l) l)))

module _ (kinds : List ℕ) (at : ℕ) where
  from_low : rows_from at (drop at kinds) ≡ rows_from (at + leading 45 (drop at kinds)) (drop (at + leading 45 (drop at kinds)) kinds)
  from_low = plain_first (drop at kinds) at ∙ ap (rows_from (at + leading 45 (drop at kinds))) (drop-drop (leading 45 (drop at kinds)) at kinds)

  -- none is left
  rows_none : length kinds ≤ at + leading 45 (drop at kinds) → rows_from at (drop at kinds) ≡ []
  rows_none h = from_low ∙ ap (rows_from (at + leading 45 (drop at kinds))) (drop_of_length-le kinds h) ∙ nothing_left (at + leading 45 (drop at kinds))

  -- the next is the first of those that are left
  module _ (low : ℕ) (e : low ≡ at + leading 45 (drop at kinds)) (h : low < length kinds) where
    next_is : row low (low + suc (leading (slice_index kinds low) (drop (suc low) kinds))) (slice_index kinds low) ≡ next_row at kinds
    next_is =
        let k : ℕ = slice_index_or kinds low 0 in
        let p : leading k (drop low kinds) ≡ suc (leading k (drop (suc low) kinds)) = ap (leading k) (drop-cons kinds low 0 h) ∙ leading_yes k k (drop (suc low) kinds) refl in
        row_found kinds at low e k (low + suc (leading k (drop (suc low) kinds))) h refl (ap (λ (n : ℕ). low + n) (sym p))

    no_plain : slice_index_or kinds low 0 ≡ 45 → ⊥
    no_plain p =
        let few : leading 45 (drop at kinds) < length (drop at kinds) = rw (length-drop at kinds) (omega arith) in
        after_leading 45 (drop at kinds) few (get_or-drop at kinds (leading 45 (drop at kinds)) 0 ∙ ap (λ (n : ℕ). slice_index kinds n) (sym e) ∙ p)

    rows_some : rows_from at (drop at kinds) ≡ next_row at kinds ∷ rows_from (next_row at kinds).end (drop (next_row at kinds).end kinds)
    rows_some =
        let k : ℕ = slice_index_or kinds low 0 in
        let n : ℕ = leading k (drop (suc low) kinds) in
        let m : suc low + n ≡ low + suc n = omega arith in
        from_low ∙ ap (λ (i : ℕ). rows_from i (drop i kinds)) (sym e) ∙ ap (rows_from low) (drop-cons kinds low 0 h)
        ∙ row_first (drop (suc low) kinds) low k no_plain
        ∙ ap (λ (l : List ℕ). row low (low + suc n) k ∷ rows_from (low + suc n) l) (drop-drop n (suc low) kinds ∙ ap (λ (i : ℕ). drop i kinds) m)
        ∙ ap (λ (r : Row). r ∷ rows_from r.end (drop r.end kinds)) next_is

-- ---- the number of rows, and their places

leading_most : (k : ℕ) (l : List ℕ) → leading k l ≤ length l
unfolding leading
leading_most k [] = omega arith
leading_most k (x ∷ l) = by_case (x == k) (leading_most k l)
  where
    by_case : (t : Bool) → leading k l ≤ length l → cond t (suc (leading k l)) 0 ≤ suc (length l)
    by_case true h = omega arith
    by_case false h = omega arith

-- a row that is not empty is the first of those that are left; an empty one says that there is none
module _ (kinds : List ℕ) (at : ℕ) (r : Row) (e : r ≡ next_row at kinds) where
  abbrev low : ℕ
  low = at + leading 45 (drop at kinds)

  abbrev more : ℕ
  more = leading (slice_index kinds low) (drop (suc low) kinds)

  view : ((low < length kinds) × (r ≡ row low (low + suc more) (slice_index kinds low))) ⊎ ((length kinds ≤ low) × (r ≡ row low low 45))
  view = ⊎_elim (λ (h : length kinds ≤ low). inr (h, e ∙ sym (row_none kinds at low refl h))) (λ (h : low < length kinds). inl (h, e ∙ sym (next_is kinds at low refl h))) (le_or_lt (length kinds) low)

  pub next_some : (r.low ≢ r.end) → rows_from at (drop at kinds) ≡ r ∷ rows_from r.end (drop r.end kinds)
  next_some n = ⊎_elim
      (λ (p : (low < length kinds) × (r ≡ row low (low + suc more) (slice_index kinds low))). rw e (rows_some kinds at low refl p.0))
      (λ (p : (length kinds ≤ low) × (r ≡ row low low 45)). absurd (n (ap (λ (x : Row). x.low) p.1 ∙ sym (ap (λ (x : Row). x.end) p.1)))) view

  pub next_none : r.low ≡ r.end → rows_from at (drop at kinds) ≡ []
  next_none n = ⊎_elim
      (λ (p : (low < length kinds) × (r ≡ row low (low + suc more) (slice_index kinds low))). absurd (omega (arith, n, ap (λ (x : Row). x.low) p.1, ap (λ (x : Row). x.end) p.1)))
      (λ (p : (length kinds ≤ low) × (r ≡ row low low 45)). rows_none kinds at p.0) view

  pub next_further : (r.low ≢ r.end) → at < r.end
  next_further n = ⊎_elim
      (λ (p : (low < length kinds) × (r ≡ row low (low + suc more) (slice_index kinds low))). omega (arith, ap (λ (x : Row). x.end) p.1))
      (λ (p : (length kinds ≤ low) × (r ≡ row low low 45)). absurd (n (ap (λ (x : Row). x.low) p.1 ∙ sym (ap (λ (x : Row). x.end) p.1)))) view

  pub next_within : at ≤ length kinds → r.end ≤ length kinds
  next_within n = ⊎_elim
      (λ (p : (low < length kinds) × (r ≡ row low (low + suc more) (slice_index kinds low))). omega (arith, ap (λ (x : Row). x.end) p.1, leading_most (slice_index kinds low) (drop (suc low) kinds), length-drop (suc low) kinds))
      (λ (p : (length kinds ≤ low) × (r ≡ row low low 45)). omega (arith, ap (λ (x : Row). x.end) p.1, leading_most 45 (drop at kinds), length-drop at kinds)) view

-- a row that is answered is the first of those that are left
pub record Answered (kinds : List ℕ) (at : ℕ) (r : Row) : Type 0 where
  pub first : rows_from at (drop at kinds) ≡ r ∷ rows_from r.end (drop r.end kinds)
  pub further : at < r.end
  pub inside : at ≤ length kinds → r.end ≤ length kinds

module _ (kinds : List ℕ) (at : ℕ) (o : Option Row) (e : o ≡ row_in (next_row at kinds)) where
  pub answered : (r : Row) → o ≡ Some r → Answered kinds at r
  answered r p =
      let is : (r ≡ next_row at kinds) × ((next_row at kinds).low ≢ (next_row at kinds).end) = some_row (next_row at kinds) r (sym e ∙ p) in
      let some : r.low ≢ r.end = λ z. is.1 (ap (λ (x : Row). x.low) (sym is.0) ∙ z ∙ ap (λ (x : Row). x.end) is.0) in
      record { first = next_some kinds at r is.0 some; further = next_further kinds at r is.0 some; inside = next_within kinds at r is.0 }

  pub none_left : o ≡ None → rows_from at (drop at kinds) ≡ []
  none_left p = next_none kinds at (next_row at kinds) refl (no_row (next_row at kinds) (sym e ∙ p))

pub no_rows_law : (rs : List Row) → length rs ≡ 0 → rs ≡ []
no_rows_law [] e = refl
no_rows_law (r ∷ rs) e = absurd (omega arith)

pub record Counting (kinds : List ℕ) (n at : ℕ) : Type 0 where
  pub work : n + length (rows_from at (drop at kinds)) ≡ length (rows_from 0 kinds)
  pub few : n ≤ at
  pub within : at ≤ length kinds

pub counting_begins : (kinds : List ℕ) → Counting kinds 0 0
counting_begins kinds = record { work = omega arith; few = omega arith; within = omega arith }

module _ (kinds : List ℕ) (n at : ℕ) (s : Counting kinds n at) where
  module _ (o : Option Row) (e : o ≡ row_in (next_row at kinds)) where
    module _ (r : Row) (p : o ≡ Some r) where
      answer : Answered kinds at r
      answer = answered kinds at o e r p

      pub counting_turn : Counting kinds (n + 1) r.end
      counting_turn =
          let q : length (rows_from at (drop at kinds)) ≡ suc (length (rows_from r.end (drop r.end kinds))) = ap (length {A = Row}) answer.first in
          record { work = omega (arith, q, s.work); few = omega (arith, s.few, answer.further); within = answer.inside s.within }

      pub counting_less : length kinds - r.end < length kinds - at
      counting_less = omega (arith, answer.further, answer.inside s.within)

    pub counting_stops : o ≡ None → n ≡ length (rows_from 0 kinds)
    counting_stops p = let q : length (rows_from at (drop at kinds)) ≡ 0 = ap (length {A = Row}) (none_left kinds at o e p) in omega (arith, q, s.work)

  pub counting_ends : length kinds ≤ at → n ≡ length (rows_from 0 kinds)
  counting_ends h = let q : length (rows_from at (drop at kinds)) ≡ 0 = ap (λ (l : List ℕ). length (rows_from at l)) (drop_of_length-le kinds h) ∙ ap (length {A = Row}) (nothing_left at) in omega (arith, q, s.work)
