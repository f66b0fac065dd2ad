-- The ends of the functions that push a row or none.
use mathlib.Core.Path.{◌≡◌, sym, ap, ◌∙◌}
use Prim.Native.Nat.{ℕ, ◌+◌, ◌-◌, ◌%◌, ◌≤◌, ◌<◌, ◌^◌, min}
use native.Mathlib.Omega.{arith}
use mathlib.Core.Bool.{Bool, true, false, cond, ◌||◌}
use mathlib.Core.List.{List, [], ◌∷◌}
use mathlib.Core.Logic.{◌≢◌}
use lib.Dec.{leb, ltb, eqb}
use borrow.Author.Tests.{ltb-true, ltb-false, eq-eqb, ne_eqb}
use Rattle.text.specs.Tests.{cases, or_false}
use Rattle.text.specs.declared.Column.{Column}
use Rattle.rows.specs.Rows.{Row, row, Wrap, wrap, unbroken, tabbed, pushed}
use Rattle.text.specs.TextParts.{column}
use Rattle.rows.specs.Wrap.{next_count, counted_row, RowList, row_list, with_row, with_rows, on, Room, Stepped, advanced, unbroken_of, last_row_list, LastRow}
use Rattle.rows.specs.declared.wrap.RowCounts.{RowCounts}
use Rattle.rows.specs.declared.wrap.WrapState.{WrapState}

-- one more, as std counts up to the largest usize
pub count_next : (n m : ℕ) → n < 2 ^ 64 → m ≡ min (n + 1) 0xFFFF_FFFF_FFFF_FFFF → m ≡ next_count n
unfolding next_count
count_next n m h e = cases (ltb n 0xFFFF_FFFF_FFFF_FFFF) (λ f. let k : n < 0xFFFF_FFFF_FFFF_FFFF = ltb-true _ _ f in rw f (omega arith)) (λ f. let k : 0xFFFF_FFFF_FFFF_FFFF ≤ n = ltb-false _ _ f in rw f (omega arith))

next_le : (n : ℕ) → next_count n ≤ n + 1
unfolding next_count
next_le n = cases (ltb n 0xFFFF_FFFF_FFFF_FFFF) (λ e. rw e (omega arith)) (λ e. rw e (omega arith))

-- ---- push_row

pub tally_is : (t : RowCounts) (a b from to : Column) (n : ℕ) → n ≡ next_count t.count → from ≡ cond (eqb t.count t.first) a t.start → to ≡ cond (eqb t.count t.last) b t.end
    → record { count = n; first = t.first; last = t.last; start = from; end = to; ended = b } ≡ counted_row t (row a.0 b.0)
unfolding counted_row
tally_is t a b from to n e f g = rw (e, f, g)

-- ---- a step that pushes nothing, and one that pushes a row

module _ (l : List ℕ) (st : WrapState) (f : Wrap → Wrap) (n : ℕ) (s p : Column) (low : s.0 ≤ p.0) (near : p.0 ≤ st.position.0 + n) where
  pub stays : (m : ℕ) → f (wrap [] st.start.0 st.position.0) ≡ wrap [] s.0 p.0 → Stepped l st f n m l (record { start = s; position = p; tally = st.tally })
  unfolding on with_rows
  stays m e = record { same = rw e; low = low; near = near; more = omega arith }

  pushes : (l' : List ℕ) (r : RowCounts) (a b : ℕ) → f (wrap [] st.start.0 st.position.0) ≡ wrap (row a b ∷ []) s.0 p.0 → row_list l' r ≡ with_row (row_list l st.tally) (row a b)
      → Stepped l st f n 1 l' (record { start = s; position = p; tally = r })
  unfolding on with_rows with_row counted_row
  pushes l' r a b e k =
      record {
        same = rw e (ap (λ (x : RowList). record { rows = x; start = s.0; position = p.0 }) k);
        low = low;
        near = near;
        more = omega (arith, ap (λ (x : RowList). x.tally.count) k, next_le st.tally.count);
      }

module _ (l : List ℕ) (st : WrapState) (width n : ℕ) (room : Room st n) (b : Bool) (test : b ≡ leb (st.position.0 + n - st.start.0) width) where
  pub unbroken_stays : (t : WrapState) → b ≡ true → t ≡ advanced st n → Stepped l st (unbroken_of width n) n 1 l t
  unfolding unbroken_of unbroken
  unbroken_stays t h e = rw e (stays l st (unbroken_of width n) n st.start (column (st.position.0 + n)) (omega arith) (omega arith) 1 (rw (sym test ∙ h)))

  pub unbroken_wraps : (l' : List ℕ) (r : RowCounts) → b ≡ false → row_list l' r ≡ with_row (row_list l st.tally) (row st.start.0 st.position.0)
      → Stepped l st (unbroken_of width n) n 1 l' (record { start = st.position; position = column (st.position.0 + n); tally = r })
  unfolding unbroken_of unbroken
  unbroken_wraps l' r h k =
      pushes l st (unbroken_of width n) n st.position (column (st.position.0 + n)) (omega arith) (omega arith) l' r st.start.0 st.position.0 (rw (sym test ∙ h)) k

module _ (l : List ℕ) (st : WrapState) (width : ℕ) (room : Room st 8) (b : Bool) (test : b ≡ leb (st.position.0 + (8 - st.position.0 % 8) - st.start.0) width) where
  abbrev stop : ℕ
  stop = st.position.0 + (8 - st.position.0 % 8)

  pub tab_stays : (t : WrapState) → b ≡ true → t ≡ advanced st (8 - st.position.0 % 8) → Stepped l st (tabbed width) 8 1 l t
  unfolding tabbed
  tab_stays t h e = rw e (stays l st (tabbed width) 8 st.start (column stop) (omega arith) (omega arith) 1 (rw (sym test ∙ h)))

  pub tab_wraps : (l' : List ℕ) (r : RowCounts) → b ≡ false → row_list l' r ≡ with_row (row_list l st.tally) (row st.start.0 stop)
      → Stepped l st (tabbed width) 8 1 l' (record { start = column stop; position = column stop; tally = r })
  unfolding tabbed
  tab_wraps l' r h k = pushes l st (tabbed width) 8 (column stop) (column stop) (omega arith) (omega arith) l' r st.start.0 stop (rw (sym test ∙ h)) k

module _ (l : List ℕ) (st : WrapState) (room : Room st 0) where
  pub held_none : st.start.0 ≡ st.position.0 → Stepped l st pushed 0 1 l st
  unfolding pushed
  held_none h = stays l st pushed 0 st.start st.position (omega arith) (omega arith) 1 (rw (eq-eqb st.start.0 st.position.0 h))

  pub row_pushed : (l' : List ℕ) (r : RowCounts) → (st.start.0 ≢ st.position.0) → row_list l' r ≡ with_row (row_list l st.tally) (row st.start.0 st.position.0)
      → Stepped l st pushed 0 1 l' (record { start = st.position; position = st.position; tally = r })
  unfolding pushed
  row_pushed l' r h k =
      pushes l st pushed 0 st.position st.position (omega arith) (omega arith) l' r st.start.0 st.position.0
      (rw (ne_eqb st.start.0 st.position.0 h)) k

-- ---- the last row

push_more : (l l' : List ℕ) (t r : RowCounts) (w : Row) → row_list l' r ≡ with_row (row_list l t) w → r.count ≤ t.count + 1
unfolding with_row counted_row
push_more l l' t r w k = omega (arith, ap (λ (x : RowList). x.tally.count) k, next_le t.count)

module _ (l : List ℕ) (st : WrapState) (mode : ℕ) where
  pub last_unwrapped : (l' : List ℕ) (r : RowCounts) → mode ≡ 0 → row_list l' r ≡ with_row (row_list l st.tally) (row 0 0xFFFF_FFFF_FFFF_FFFF) → LastRow l st mode l' r
  unfolding last_row_list
  last_unwrapped l' r e k = record { same = rw (eq-eqb mode 0 e) k; more = push_more l l' st.tally r (row 0 0xFFFF_FFFF_FFFF_FFFF) k }

  module _ (e : mode ≢ 0) where
    pub last_some : (l' : List ℕ) (r : RowCounts) → (ltb st.start.0 st.position.0 || eqb st.tally.count 0) ≡ true → row_list l' r ≡ with_row (row_list l st.tally) (row st.start.0 st.position.0) → LastRow l st mode l' r
    unfolding last_row_list
    last_some l' r h k =
        record {
          same = cases (ltb st.start.0 st.position.0) (λ f. rw (ne_eqb mode 0 e, f) k) (λ f. rw (ne_eqb mode 0 e, f, rw f at h) k);
          more = push_more l l' st.tally r (row st.start.0 st.position.0) k;
        }

    pub last_none : (ltb st.start.0 st.position.0 || eqb st.tally.count 0) ≡ false → LastRow l st mode l st.tally
    unfolding last_row_list
    last_none h =
        let o = or_false (ltb st.start.0 st.position.0) (eqb st.tally.count 0) h in
        record { same = rw (ne_eqb mode 0 e, o.0, o.1); more = omega arith }
