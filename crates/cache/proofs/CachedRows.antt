-- `cached_rows`: what is answered with the number of kept rows known, and then remembered, is the definition's.
use mathlib.Core.Path.{◌≡◌, refl, sym, ap, ap₂, ◌∙◌}
use mathlib.Core.Logic.{◌≢◌}
use Prim.Native.Nat.{ℕ, zero, suc, ◌+◌, ◌-◌, ◌*◌, ◌≤◌}
use native.Mathlib.Omega.{arith}
use mathlib.Core.Bool.{Bool, true, false, cond, not, ◌&&◌, ◌||◌}
use mathlib.Core.List.{List, [], ◌∷◌, ◌++◌}
use mathlib.Core.Option.{Option, none, some}
use Rattle.std.proofs.Common.{None, Some}
use Rattle.std.proofs.Common.{Option as Maybe}
use lib.ListN.{length, take, drop, replicate, length-drop}
use lib.Seq.{take_at, length-take-le}
use lib.Dec.{eqb, leb}
use borrow.Author.Tests.{leb-true}
use Rattle.buffer.specs.Sink.{written}
use Rattle.text.specs.Tests.{cases}
use Rattle.text.specs.Width.{profile01}
use Rattle.text.specs.Overstrike.{convert}
use Rattle.text.specs.Calls.{Question, ask, decide, lent, counted, question1, question2}
use Rattle.text.specs.Calls.Laws.{decide_no, decided_before, decided_behind, lent_accepted, lent_refused, counted_accepted}
use Rattle.text.specs.declared.Answer.{Answer}
use Rattle.spans.specs.Spans.{Span, spans, Record, records}
use Rattle.spans.specs.Calls.{question4, no_record}
use Rattle.rows.specs.Rows.{Row, rows}
use Rattle.rows.specs.Calls.{mode_of, mode_and_width, numbers_of, Wrapped}
use Rattle.rows.specs.Calls.Laws.{first}
use Rattle.rows.specs.Calls.Contracts.{row_count, wrapped_as, answered}
use Rattle.rows.specs.Wrap.Laws.{numbers_of_length}
use Rattle.rows.specs.declared.Request.{Request}
use Rattle.cache.specs.declared.wraps.Head.{Head}
use Rattle.cache.specs.Wraps.{Key, key, kept, find, kept_numbers, block_at, after_use, with_wrap}
use Rattle.cache.specs.Wraps.Contracts.{Within, rows_found, listed}
use Rattle.cache.specs.Calls.{wrap_for, wraps_after, unless_refused, CachedRows, cached_rows_call}
use Rattle.cache.specs.Calls.Contracts.{rows_request, RememberReady, Remembered}
use Rattle.cache.specs.Wraps.Laws.{kept_well}
use Rattle.cache.specs.Wraps.Use.{found_has}
use Rattle.cache.proofs.Uses.{and_false, zeros_behind}

module _ (wraps : List ℕ) (size places numbers width mode : ℕ) (line : List ℕ) where
  abbrev k : Key
  k = key 0 width mode

  abbrev ss : List Span
  ss = spans profile01 (convert profile01 line)

  abbrev pub rs : List Row
  rs = rows profile01 width (mode_of mode) ss

  -- the number, with so many rows of which `list` says whether they are listed
  abbrev pub number : Bool → ℕ → ℕ
  number list n = decide (question1 line ∷ question2 size line ∷ question4 places ss ∷ ask 5 (mode_and_width mode width) ∷ ask 6 (not list || leb (2 * n) numbers) ∷ [])

  abbrev pub answer_of : ℕ → ℕ → List ℕ → Wrapped
  answer_of n r xs = record { number = r; count = counted n r; conv = lent 0 size (convert profile01 line) r; spans = lent no_record places (records ss) r; rows = lent 0 numbers xs r }

  -- a request of which so many rows are known
  abbrev pub request : Bool → Maybe ℕ → Request
  request list n = record { width = width; mode = mode; listed = list; known = n }

  pub answered_new : (list : Bool) → answered (request list None) size places numbers line ≡ answer_of (length rs) (number list (length rs)) (cond (leb (2 * length rs) numbers) (numbers_of rs) [])
  unfolding answered row_count
  answered_new list = refl

  pub answered_known : (list : Bool) (n : ℕ) → answered (request list (Some n)) size places numbers line ≡ answer_of n (number list n) []
  unfolding answered row_count
  answered_known list n = refl

  -- ---- the rows

  -- question 6 is the last one
  refused_six : (n : ℕ) → leb (2 * n) numbers ≡ false → (number true n ≢ 0)
  refused_six n e z = by_number (decide asked) refl
    where
      asked : List Question
      asked = first profile01 size places line ++ (ask 5 (mode_and_width mode width) ∷ [])

      by_number : (r : ℕ) → decide asked ≡ r → ⊥
      by_number zero q = let d : number true n ≡ 6 = decided_behind asked (ask 6 (leb (2 * n) numbers) ∷ []) tt q ∙ decide_no (ask 6 (leb (2 * n) numbers)) [] e in omega arith
      by_number (suc r) q = let d : number true n ≡ suc r = decided_before asked (ask 6 (leb (2 * n) numbers) ∷ []) r q in omega arith

  -- an answer by its number
  pub answer_zero : (n r : ℕ) (xs : List ℕ) → r ≡ 0 → answer_of n r xs ≡ record { number = 0; count = n; conv = lent 0 size (convert profile01 line) 0; spans = lent no_record places (records ss) 0; rows = xs ++ replicate (numbers - length xs) 0 }
  answer_zero n r xs e = rw e (simp (counted_accepted, lent_accepted 0 numbers xs))

  same_refused : (n r q : ℕ) (xs ys : List ℕ) → r ≡ suc q → answer_of n r xs ≡ answer_of n r ys
  same_refused n r q xs ys e = rw e (simp (lent_refused))

  pub pairs_first : (n : ℕ) → take (2 * length rs) (numbers_of rs ++ replicate n 0) ≡ numbers_of rs
  pairs_first n = take_at (numbers_of rs) (replicate n 0) (2 * length rs) (numbers_of_length rs)

  module _ (a : Answer) (cs : List ℕ) (sps : List Record) (l₁ l₂ wraps₂ : List ℕ) where
    abbrev both : Wrapped → List ℕ → CachedRows
    both x y = record { answer = x; wraps = y }

    abbrev with_rows : Wrapped → List ℕ → Wrapped
    with_rows x t = record { number = x.number; count = x.count; conv = x.conv; spans = x.spans; rows = t }

    -- ---- `cached_rows`

    abbrev N : ℕ → ℕ
    N n = number true n

    rows_by_law : (found : Option Head) → find k (kept wraps) ≡ found
        → cached_rows_call profile01 wraps size places numbers width mode line ≡ record { answer = answer_of (wrap_for wraps found rs).count (N (wrap_for wraps found rs).count) (wrap_for wraps found rs).numbers; wraps = unless_refused (N (wrap_for wraps found rs).count) (wraps_after wraps k found (wrap_for wraps found rs)) wraps }
    unfolding cached_rows_call
    rows_by_law found e = rw (← e) refl

    abbrev Leaves : Type 0
    Leaves = both (wrapped_as a cs sps l₂) wraps₂ ≡ cached_rows_call profile01 wraps size places numbers width mode line

    -- a key that is not kept
    module _ (new : find k (kept wraps) ≡ none) (answer : wrapped_as a cs sps l₁ ≡ answer_of (length rs) (N (length rs)) (cond (leb (2 * length rs) numbers) (numbers_of rs) []))
        (left : Remembered k true a.number a.count wraps l₁ wraps₂ l₂) where
      number_is : a.number ≡ N (length rs)
      number_is = ap (λ (x : Wrapped). x.number) answer

      list_same : l₂ ≡ l₁
      unfolding listed unless_refused
      list_same = left.list ∙ rw new (by a.number)
        where
          by : (r : ℕ) → unless_refused r l₁ l₁ ≡ l₁
          by zero = refl
          by (suc r) = refl

      wraps_at : (r : ℕ) → a.number ≡ r → wraps₂ ≡ unless_refused r (cond (eqb mode 0 && false) wraps (with_wrap wraps (kept wraps) k a.count (take (2 * a.count) l₁))) wraps
      unfolding wraps_after
      wraps_at r e = left.left ∙ rw (new, e) refl

      wraps_new : (r : ℕ) → a.number ≡ r → wraps₂ ≡ unless_refused r (with_wrap wraps (kept wraps) k a.count (take (2 * a.count) l₁)) wraps
      wraps_new r e = wraps_at r e ∙ rw (and_false (eqb mode 0)) refl

      abbrev kept_new : List ℕ
      kept_new = with_wrap wraps (kept wraps) k (length rs) (numbers_of rs)

      new_call : (r : ℕ) → N (length rs) ≡ r → cached_rows_call profile01 wraps size places numbers width mode line ≡ both (answer_of (length rs) (N (length rs)) (numbers_of rs)) (unless_refused r kept_new wraps)
      unfolding wrap_for wraps_after
      new_call r e = rows_by_law none new ∙ ap (λ (q : ℕ). both (answer_of (length rs) (N (length rs)) (numbers_of rs)) (unless_refused q kept_new wraps)) e

      new_rows : (r : ℕ) → a.number ≡ r → Leaves
      unfolding unless_refused
      new_rows zero e =
          cases (leb (2 * length rs) numbers)
          (λ f.
          let whole : wrapped_as a cs sps l₁ ≡ answer_of (length rs) (N (length rs)) (numbers_of rs) = answer ∙ rw f refl in
          let shown = whole ∙ answer_zero (length rs) (N (length rs)) (numbers_of rs) (sym number_is ∙ e) in
          let c : a.count ≡ length rs = ap (λ (x : Wrapped). x.count) shown in
          let p : take (2 * a.count) l₁ ≡ numbers_of rs = rw (c, ap (λ (x : Wrapped). x.rows) shown) (pairs_first (numbers - length (numbers_of rs))) in
          let x : wrapped_as a cs sps l₂ ≡ answer_of (length rs) (N (length rs)) (numbers_of rs) = rw list_same whole in
          let y : wraps₂ ≡ kept_new = wraps_new 0 e ∙ ap₂ (with_wrap wraps (kept wraps) k) c p in
          ap₂ both x y ∙ sym (new_call 0 (sym number_is ∙ e)))
          (λ f. absurd (refused_six (length rs) f (sym number_is ∙ e)))
      new_rows (suc r) e =
          let x : wrapped_as a cs sps l₂ ≡ answer_of (length rs) (N (length rs)) (numbers_of rs) = rw list_same answer ∙ same_refused (length rs) (N (length rs)) r (cond (leb (2 * length rs) numbers) (numbers_of rs) []) (numbers_of rs) (sym number_is ∙ e) in
          ap₂ both x (wraps_new (suc r) e) ∙ sym (new_call (suc r) (sym number_is ∙ e))

    -- a key that is kept
    module _ (h : Head) (old : find k (kept wraps) ≡ some h) (long : length (kept_numbers wraps h) ≡ 2 * h.count) (answer : wrapped_as a cs sps l₁ ≡ answer_of h.count (N h.count) [])
        (left : Remembered k true a.number a.count wraps l₁ wraps₂ l₂) where
      known_number : a.number ≡ N h.count
      known_number = ap (λ (x : Wrapped). x.number) answer

      list_at : (r : ℕ) → a.number ≡ r → l₂ ≡ unless_refused r (written l₁ 0 (kept_numbers wraps h)) l₁
      unfolding listed
      list_at r e = left.list ∙ rw (old, e) refl

      wraps_old : (r : ℕ) → a.number ≡ r → wraps₂ ≡ unless_refused r (after_use wraps (kept wraps) h) wraps
      unfolding wraps_after
      wraps_old r e = left.left ∙ rw (old, e, and_false (eqb mode 0)) refl

      old_call : (r : ℕ) → N h.count ≡ r → cached_rows_call profile01 wraps size places numbers width mode line ≡ both (answer_of h.count (N h.count) (kept_numbers wraps h)) (unless_refused r (after_use wraps (kept wraps) h) wraps)
      unfolding wrap_for wraps_after
      old_call r e = rows_by_law (some h) old ∙ ap (λ (q : ℕ). both (answer_of h.count (N h.count) (kept_numbers wraps h)) (unless_refused q (after_use wraps (kept wraps) h) wraps)) e

      listed_front : (xs : List ℕ) → l₁ ≡ [] ++ replicate (numbers - 0) 0 → written l₁ 0 xs ≡ xs ++ replicate (numbers - length xs) 0
      listed_front xs e =
          let z : 0 + length xs ≡ length xs = omega arith in
          let y : numbers - 0 ≡ numbers = omega arith in
          ap (λ (n : ℕ). xs ++ drop n l₁) z ∙ ap (λ (t : List ℕ). xs ++ drop (length xs) t) (e ∙ rw y refl) ∙ ap (λ (t : List ℕ). xs ++ t) (zeros_behind (length xs) numbers)

      old_rows : (r : ℕ) → a.number ≡ r → Leaves
      unfolding unless_refused
      old_rows zero e =
          let n : N h.count ≡ 0 = sym known_number ∙ e in
          let shown = answer ∙ answer_zero h.count (N h.count) [] n in
          let l : l₂ ≡ kept_numbers wraps h ++ replicate (numbers - length (kept_numbers wraps h)) 0 = list_at 0 e ∙ listed_front (kept_numbers wraps h) (ap (λ (x : Wrapped). x.rows) shown) in
          let x : wrapped_as a cs sps l₂ ≡ answer_of h.count (N h.count) (kept_numbers wraps h) = ap₂ (λ (x : Wrapped) (t : List ℕ). with_rows x t) shown l ∙ sym (answer_zero h.count (N h.count) (kept_numbers wraps h) n) in
          ap₂ both x (wraps_old 0 e) ∙ sym (old_call 0 n)
      old_rows (suc r) e =
          let n : N h.count ≡ suc r = sym known_number ∙ e in
          let x : wrapped_as a cs sps l₂ ≡ answer_of h.count (N h.count) (kept_numbers wraps h) = rw (list_at (suc r) e) (answer ∙ same_refused h.count (N h.count) r [] (kept_numbers wraps h) n) in
          ap₂ both x (wraps_old (suc r) e) ∙ sym (old_call (suc r) n)

    -- either
    module _ (long : length wraps ≡ 8212) (answer : wrapped_as a cs sps l₁ ≡ answered (rows_request wraps width mode) size places numbers line) where
      within : (h : Head) → find k (kept wraps) ≡ some h → Within h
      within h e = (found_has k h (kept_well wraps).within e).0

      new_answer : find k (kept wraps) ≡ none → wrapped_as a cs sps l₁ ≡ answer_of (length rs) (N (length rs)) (cond (leb (2 * length rs) numbers) (numbers_of rs) [])
      new_answer e = answer ∙ ap (λ (n : Maybe ℕ). answered (request true n) size places numbers line) (ap rows_found e) ∙ answered_new true

      old_answer : (h : Head) → find k (kept wraps) ≡ some h → wrapped_as a cs sps l₁ ≡ answer_of h.count (N h.count) []
      old_answer h e = answer ∙ ap (λ (n : Maybe ℕ). answered (request true n) size places numbers line) (ap rows_found e) ∙ answered_known true h.count

      kept_long : (h : Head) → find k (kept wraps) ≡ some h → length (kept_numbers wraps h) ≡ 2 * h.count
      kept_long h e = let w = within h e in length-take-le (2 * h.count) (drop (block_at h.block) wraps) (rw length-drop (omega (arith, w.fits, w.block)))

      pub rows_cached : Remembered k true a.number a.count wraps l₁ wraps₂ l₂ → Leaves
      rows_cached left = by (find k (kept wraps)) refl
        where
          by : (f : Option Head) → find k (kept wraps) ≡ f → Leaves
          by none e = new_rows e (new_answer e) left a.number refl
          by (some h) e = old_rows h e (kept_long h e) (old_answer h e) left a.number refl

      -- an accepted answer fits the list
      fits : (n : ℕ) → N n ≡ 0 → 2 * n ≤ numbers
      fits n z = cases (leb (2 * n) numbers) (λ f. leb-true (2 * n) numbers f) (λ f. absurd (refused_six n f z))

      pub rows_ready : RememberReady k true a.number a.count wraps numbers
      rows_ready =
          record {
            size = long;
            room = λ z few. by z (find k (kept wraps)) refl;
            found = λ h y z e. let n = ap (λ (x : Wrapped). x.number) (old_answer h e) in omega (arith, fits h.count (sym n ∙ z));
          }
        where
          by : a.number ≡ 0 → (f : Option Head) → find k (kept wraps) ≡ f → 2 * a.count ≤ numbers
          by z none e =
              let n : N (length rs) ≡ 0 = sym (ap (λ (x : Wrapped). x.number) (new_answer e)) ∙ z in
              let c : a.count ≡ length rs = ap (λ (x : Wrapped). x.count) (new_answer e ∙ answer_zero (length rs) (N (length rs)) (cond (leb (2 * length rs) numbers) (numbers_of rs) []) n) in
              omega (arith, c, fits (length rs) n)
          by z (some h) e =
              let n : N h.count ≡ 0 = sym (ap (λ (x : Wrapped). x.number) (old_answer h e)) ∙ z in
              let c : a.count ≡ h.count = ap (λ (x : Wrapped). x.count) (old_answer h e ∙ answer_zero h.count (N h.count) [] n) in
              omega (arith, c, fits h.count n)
