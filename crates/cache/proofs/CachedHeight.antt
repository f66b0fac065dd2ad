-- `cached_height`: the same, with a row list of its own for 1,024 rows.
use mathlib.Core.Path.{◌≡◌, refl, sym, ap, ap₂, ◌∙◌}
use mathlib.Core.Logic.{◌≢◌}
use Prim.Native.Nat.{ℕ, zero, suc, ◌-◌, ◌*◌}
use native.Mathlib.Omega.{arith}
use mathlib.Core.Bool.{true, false, cond}
use mathlib.Core.List.{List, [], ◌∷◌, ◌++◌}
use mathlib.Core.Option.{Option, none, some}
use Rattle.std.proofs.Common.{None, Some}
use Rattle.std.proofs.Common.{Option as Maybe}
use lib.ListN.{length, take, replicate}
use lib.Dec.{eqb, leb}
use borrow.Author.Tests.{eq-eqb, ne_eqb, eqb-true, eqb-false, le-leb, leb-true}
use Rattle.text.specs.Tests.{cases}
use Rattle.text.specs.Width.{profile01}
use Rattle.text.specs.Calls.{Question, ask, decide}
use Rattle.text.specs.Calls.Laws.{decide_nil, decide_yes, decided_before, decided_behind}
use Rattle.text.specs.declared.Answer.{Answer}
use Rattle.spans.specs.Spans.{Record}
use Rattle.spans.specs.Calls.{Read}
use Rattle.spans.specs.Calls.Contracts.{read_as}
use Rattle.rows.specs.Rows.{Row, rows}
use Rattle.rows.specs.Calls.{mode_of, mode_and_width, numbers_of, Wrapped}
use Rattle.rows.specs.Calls.Laws.{first}
use Rattle.rows.specs.Calls.Contracts.{wrapped_as, answered}
use Rattle.rows.specs.Numbers.{read_of}
use Rattle.cache.specs.declared.wraps.Head.{Head}
use Rattle.cache.specs.Wraps.{Key, key, kept, find, with_wrap}
use Rattle.cache.specs.Wraps.Contracts.{rows_found, kept_rows}
use Rattle.cache.specs.Calls.{wrap_for, wraps_after, unless_refused, CachedHeight, cached_height_call}
use Rattle.cache.specs.Calls.Contracts.{height_request, RememberReady, Remembered}
use Rattle.cache.proofs.CachedRows.{rs, number, answer_of, request, answered_new, answered_known, answer_zero, pairs_first}

module _ (wraps : List ℕ) (size places width mode : ℕ) (line : List ℕ) where
  abbrev key_of : Key
  key_of = key 0 width mode

  abbrev its_rows : List Row
  its_rows = rs wraps size places 2048 width mode line

  abbrev its_answer : ℕ → ℕ → List ℕ → Wrapped
  its_answer = answer_of wraps size places 2048 width mode line

  abbrev its_number : ℕ → ℕ
  its_number n = number wraps size places 2048 width mode line false n

  -- no question 6
  abbrev four : ℕ
  four = decide (first profile01 size places line ++ (ask 5 (mode_and_width mode width) ∷ []))

  number_four : (n : ℕ) → its_number n ≡ four
  number_four n = by four refl
    where
      asked : List Question
      asked = first profile01 size places line ++ (ask 5 (mode_and_width mode width) ∷ [])

      by : (r : ℕ) → decide asked ≡ r → its_number n ≡ decide asked
      by zero q = decided_behind asked (ask 6 true ∷ []) tt q ∙ decide_yes (ask 6 true) [] refl ∙ decide_nil ∙ sym q
      by (suc r) q = decided_before asked (ask 6 true ∷ []) r q ∙ sym q

  abbrev height_of : ℕ → ℕ → Read
  height_of n r = read_of (its_answer n r [])

  abbrev together : Read → List ℕ → CachedHeight
  together x y = record { answer = x; wraps = y }

  height_by_law : (found : Option Head) → find key_of (kept wraps) ≡ found
      → cached_height_call profile01 wraps size places width mode line ≡ together (height_of (cond (eqb mode 0) 1 (wrap_for wraps found its_rows).count) four) (unless_refused four (cond (eqb mode 0) wraps (wraps_after wraps key_of found (wrap_for wraps found its_rows))) wraps)
  unfolding cached_height_call
  height_by_law found e = rw (← e) refl

  module _ (a : Answer) (cs : List ℕ) (sps : List Record) (l₁ l₂ wraps₂ : List ℕ) (long : length wraps ≡ 8212) (answer : wrapped_as a cs sps l₁ ≡ answered (height_request wraps width mode) size places 2048 line)
      (left : Remembered key_of false a.number a.count wraps l₁ wraps₂ l₂) where
    abbrev Left : Type 0
    Left = together (read_as a cs sps) wraps₂ ≡ cached_height_call profile01 wraps size places width mode line

    -- Unwrapped height
    module _ (z : mode ≡ 0) where
      one_row_law : length its_rows ≡ 1
      unfolding rows mode_of
      one_row_law = rw z refl

      unwrapped_answer : read_as a cs sps ≡ height_of 1 four
      unwrapped_answer =
          ap read_of (answer ∙ ap (λ (n : Maybe ℕ). answered (request wraps size places 2048 width mode line false n) size places 2048 line) (rw (eq-eqb mode 0 z) refl) ∙ answered_new wraps size places 2048 width mode line false)
          ∙ rw (one_row_law, number_four 1) refl

      unwrapped_wraps : wraps₂ ≡ wraps
      unfolding unless_refused
      unwrapped_wraps = left.left ∙ rw (eq-eqb mode 0 z) (by a.number)
        where
          by : (r : ℕ) → unless_refused r wraps wraps ≡ wraps
          by zero = refl
          by (suc r) = refl

      unwrapped_height_law : Left
      unfolding unless_refused
      unwrapped_height_law =
          ap₂ together unwrapped_answer unwrapped_wraps
          ∙ sym (height_by_law (find key_of (kept wraps)) refl ∙ rw (eq-eqb mode 0 z) (ap (together (height_of 1 four)) (by four)))
        where
          by : (r : ℕ) → unless_refused r wraps wraps ≡ wraps
          by zero = refl
          by (suc r) = refl

    module _ (z : mode ≢ 0) where
      asked_for : (n : Maybe ℕ) → kept_rows key_of wraps ≡ n → wrapped_as a cs sps l₁ ≡ answered (request wraps size places 2048 width mode line false n) size places 2048 line
      asked_for n e = answer ∙ ap (λ (m : Maybe ℕ). answered (request wraps size places 2048 width mode line false m) size places 2048 line) (rw (ne_eqb mode 0 z) e)

      wraps_left : (found : Option Head) (r : ℕ) → find key_of (kept wraps) ≡ found → a.number ≡ r → wraps₂ ≡ unless_refused r (wraps_after wraps key_of found (record { count = a.count; numbers = take (2 * a.count) l₁ })) wraps
      wraps_left found r e f = left.left ∙ rw (e, f, ne_eqb mode 0 z) refl

      call_is : (found : Option Head) (r : ℕ) → find key_of (kept wraps) ≡ found → four ≡ r
          → cached_height_call profile01 wraps size places width mode line ≡ together (height_of (wrap_for wraps found its_rows).count four) (unless_refused r (wraps_after wraps key_of found (wrap_for wraps found its_rows)) wraps)
      call_is found r e f = height_by_law found e ∙ rw (ne_eqb mode 0 z) (ap (λ (q : ℕ). together (height_of (wrap_for wraps found its_rows).count four) (unless_refused q (wraps_after wraps key_of found (wrap_for wraps found its_rows)) wraps)) f)

      -- a key that is not kept
      module _ (new : find key_of (kept wraps) ≡ none) where
        abbrev fitting : List ℕ
        fitting = cond (leb (2 * length its_rows) 2048) (numbers_of its_rows) []

        whole : wrapped_as a cs sps l₁ ≡ its_answer (length its_rows) four fitting
        whole = asked_for None (ap rows_found new) ∙ answered_new wraps size places 2048 width mode line false ∙ ap (λ (r : ℕ). its_answer (length its_rows) r fitting) (number_four (length its_rows))

        four_is : a.number ≡ four
        four_is = ap (λ (x : Wrapped). x.number) whole

        kept_same : four ≡ 0 → with_wrap wraps (kept wraps) key_of a.count (take (2 * a.count) l₁) ≡ with_wrap wraps (kept wraps) key_of (length its_rows) (numbers_of its_rows)
        unfolding with_wrap
        kept_same n =
            let shown = whole ∙ answer_zero wraps size places 2048 width mode line (length its_rows) four fitting n in
            let c : a.count ≡ length its_rows = ap (λ (x : Wrapped). x.count) shown in
            cases (leb (length its_rows) 1024)
            (λ f.
            let g : fitting ≡ numbers_of its_rows = rw (le-leb (2 * length its_rows) 2048 (omega (arith, leb-true (length its_rows) 1024 f))) refl in
            let l : l₁ ≡ numbers_of its_rows ++ replicate (2048 - length (numbers_of its_rows)) 0 = ap (λ (x : Wrapped). x.rows) shown ∙ ap (λ (x : List ℕ). x ++ replicate (2048 - length x) 0) g in
            ap₂ (λ (n : ℕ) (xs : List ℕ). with_wrap wraps (kept wraps) key_of n xs) c (rw (c, l) (pairs_first wraps size places 2048 width mode line (2048 - length (numbers_of its_rows)))))
            (λ f. rw (c, f) refl)

        new_height : (r : ℕ) → four ≡ r → Left
        unfolding unless_refused wraps_after wrap_for
        new_height zero e = ap₂ together (ap read_of whole) (wraps_left none 0 new (four_is ∙ e) ∙ kept_same e) ∙ sym (call_is none 0 new e)
        new_height (suc r) e = ap₂ together (ap read_of whole) (wraps_left none (suc r) new (four_is ∙ e)) ∙ sym (call_is none (suc r) new e)

      -- a key that is kept
      module _ (h : Head) (old : find key_of (kept wraps) ≡ some h) where
        known : wrapped_as a cs sps l₁ ≡ its_answer h.count four []
        known = asked_for (Some h.count) (ap rows_found old) ∙ answered_known wraps size places 2048 width mode line false h.count ∙ ap (λ (r : ℕ). its_answer h.count r []) (number_four h.count)

        old_height : Left
        unfolding wraps_after wrap_for
        old_height = ap₂ together (ap read_of known) (wraps_left (some h) four old (ap (λ (x : Wrapped). x.number) known)) ∙ sym (call_is (some h) four old refl)

    pub height_cached : Left
    height_cached = cases (eqb mode 0) (λ e. unwrapped_height_law (eqb-true mode 0 e)) (λ e. by (eqb-false mode 0 e) (find key_of (kept wraps)) refl)
      where
        by : (mode ≢ 0) → (f : Option Head) → find key_of (kept wraps) ≡ f → Left
        by z none e = new_height z e four refl
        by z (some h) e = old_height z h e

pub height_ready : (k : Key) (number count : ℕ) (wraps : List ℕ) → length wraps ≡ 8212 → RememberReady k false number count wraps 2048
height_ready k number count wraps long = record { size = long; room = λ z few. omega arith; found = λ h y z e. absurd (let w : ◌≡◌ {A = ℕ} 0 1 = cc in omega arith) }
