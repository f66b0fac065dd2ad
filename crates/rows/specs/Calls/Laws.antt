-- The calls `rows` and `height` by what the call `read` without matches answers: the same refusals first, then questions 5 and 6.
use Rattle.std.specs.Prelude.{◌≡◌, ℕ, suc, ◌-◌, ◌*◌, ◌≤◌, ◌<◌, true, false, List, [], ◌∷◌, ◌++◌, length, replicate}
use Rattle.std.proofs.Math.Path.{refl}
use Rattle.std.proofs.Common.{sym, ap, ◌∙◌, le-leb}
use Rattle.std.proofs.lemmas.Bool.{lt-leb}
use Rattle.text.specs.Class.{Profile}
use Rattle.text.specs.Overstrike.{convert}
use Rattle.text.specs.Calls.{Question, ask, decide, lent, counted, question1, question2}
use Rattle.text.specs.Calls.Laws.{decide_nil, decide_yes, decide_no, decided_before, decided_behind, lent_accepted, lent_refused, counted_accepted, counted_refused}
use Rattle.spans.specs.Spans.{Span, spans, records}
use Rattle.spans.specs.Calls.{Read, no_record, question4, read_call}
use Rattle.spans.specs.Calls.Laws.{unmatched, unmatched_accepted}
use Rattle.rows.specs.Rows.{Row, rows}
use Rattle.rows.specs.Calls.{mode_of, mode_and_width, numbers_of, question6, Wrapped, rows_call, height_call}

module _ (P : Profile) (conv places : ℕ) (line : List ℕ) where
  abbrev found : List Span
  found = spans P (convert P line)

  -- questions 1, 2 and 4, and then others
  abbrev pub first : List Question
  first = question1 line ∷ question2 conv line ∷ question4 places found ∷ []

  pub refusing : (r : ℕ) (qs : List Question) → (read_call P conv places [] line).number ≡ suc r → decide (first ++ qs) ≡ suc r
  refusing r qs e = decided_before first qs r (sym (unmatched P conv places line) ∙ e)

  pub accepting : (qs : List Question) → (read_call P conv places [] line).number ≡ 0 → decide (first ++ qs) ≡ decide qs
  accepting qs e = decided_behind first qs tt (sym (unmatched P conv places line) ∙ e)

  module _ (width mode : ℕ) where
    abbrev rows_found : List Row
    rows_found = rows P width (mode_of mode) found

    abbrev question5 : Question
    question5 = ask 5 (mode_and_width mode width)

    abbrev height_by : ℕ → Read
    height_by r = record { number = r; count = counted (length rows_found) r; conv = lent 0 conv (convert P line) r; spans = lent no_record places (records found) r }

    height_by_law : height_call P conv places width mode line ≡ height_by (decide (first ++ (question5 ∷ [])))
    unfolding height_call
    height_by_law = refl

    -- refused with number n
    abbrev no_height : ℕ → Read
    no_height n = record { number = n; count = 0; conv = replicate conv 0; spans = replicate places no_record }

    no_height_law : (r : ℕ) → height_by (suc r) ≡ no_height (suc r)
    no_height_law r = simp (lent_refused, counted_refused)

    pub height_refused : (r : ℕ) → (read_call P conv places [] line).number ≡ suc r → height_call P conv places width mode line ≡ no_height (suc r)
    height_refused r e = height_by_law ∙ ap height_by (refusing r _ e) ∙ no_height_law r

    module _ (fine : (read_call P conv places [] line).number ≡ 0) where
      pub height_five : mode_and_width mode width ≡ false → height_call P conv places width mode line ≡ no_height 5
      height_five e = height_by_law ∙ ap height_by (accepting _ fine ∙ decide_no question5 [] e) ∙ no_height_law 4

      pub height_accepted : mode_and_width mode width ≡ true → height_call P conv places width mode line ≡ record { number = 0; count = length rows_found; conv = (read_call P conv places [] line).conv; spans = (read_call P conv places [] line).spans }
      height_accepted e = rw (unmatched_accepted P conv places line fine) (height_by_law ∙ ap height_by (accepting _ fine ∙ decide_yes question5 [] e ∙ decide_nil) ∙ simp (lent_accepted, counted_accepted))

    module _ (numbers : ℕ) where
      abbrev rows_by : ℕ → Wrapped
      rows_by r =
          record { number = r; count = counted (length rows_found) r; conv = lent 0 conv (convert P line) r; spans = lent no_record places (records found) r; rows = lent 0 numbers (numbers_of rows_found) r }

      rows_by_law : rows_call P conv places numbers width mode line ≡ rows_by (decide (first ++ (question5 ∷ question6 numbers rows_found ∷ [])))
      unfolding rows_call
      rows_by_law = refl

      abbrev no_rows : ℕ → Wrapped
      no_rows n = record { number = n; count = 0; conv = replicate conv 0; spans = replicate places no_record; rows = replicate numbers 0 }

      no_rows_law : (r : ℕ) → rows_by (suc r) ≡ no_rows (suc r)
      no_rows_law r = simp (lent_refused, counted_refused)

      pub rows_refused : (r : ℕ) → (read_call P conv places [] line).number ≡ suc r → rows_call P conv places numbers width mode line ≡ no_rows (suc r)
      rows_refused r e = rows_by_law ∙ ap rows_by (refusing r _ e) ∙ no_rows_law r

      module _ (fine : (read_call P conv places [] line).number ≡ 0) where
        pub rows_five : mode_and_width mode width ≡ false → rows_call P conv places numbers width mode line ≡ no_rows 5
        rows_five e = rows_by_law ∙ ap rows_by (accepting _ fine ∙ decide_no question5 (question6 numbers rows_found ∷ []) e) ∙ no_rows_law 4

        module _ (e : mode_and_width mode width ≡ true) where
          sixth : rows_call P conv places numbers width mode line ≡ rows_by (decide (question6 numbers rows_found ∷ []))
          sixth = rows_by_law ∙ ap rows_by (accepting _ fine ∙ decide_yes question5 (question6 numbers rows_found ∷ []) e)

          pub rows_six : numbers < 2 * length rows_found → rows_call P conv places numbers width mode line ≡ no_rows 6
          rows_six h = sixth ∙ ap rows_by (decide_no (question6 numbers rows_found) [] (lt-leb (2 * length rows_found) numbers h)) ∙ no_rows_law 5

          pub rows_accepted : 2 * length rows_found ≤ numbers
              → rows_call P conv places numbers width mode line ≡ record { number = 0; count = length rows_found; conv = (read_call P conv places [] line).conv; spans = (read_call P conv places [] line).spans; rows = numbers_of rows_found ++ replicate (numbers - length (numbers_of rows_found)) 0 }
          rows_accepted h =
              rw (unmatched_accepted P conv places line fine) (sixth ∙ ap rows_by (decide_yes (question6 numbers rows_found) [] (le-leb (2 * length rows_found) numbers h) ∙ decide_nil) ∙ simp (lent_accepted, counted_accepted))
