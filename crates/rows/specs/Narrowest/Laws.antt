-- The call `narrowest` by what the call `read` without matches answers: the same refusals first, then question 5.
use Rattle.std.specs.Prelude.{◌≡◌, ℕ, zero, suc, ◌≤◌, Bool, true, false, ◌&&◌, List, [], ◌∷◌, ◌++◌, replicate, leb}
use Rattle.std.proofs.Math.Path.{refl}
use Rattle.std.proofs.Common.{ap, ◌∙◌}
use Rattle.text.specs.Tests.{and_T, true_T, is_true, in_range_law}
use Rattle.text.specs.Class.{Profile}
use Rattle.text.specs.Overstrike.{convert}
use Rattle.text.specs.Calls.{Question, ask, decide, lent, counted}
use Rattle.text.specs.Calls.Laws.{decide_nil, decide_yes, decide_no, lent_accepted, lent_refused, counted_accepted, counted_refused}
use Rattle.spans.specs.Spans.{Span, spans, records}
use Rattle.spans.specs.Calls.{no_record, read_call}
use Rattle.spans.specs.Calls.Laws.{unmatched_accepted}
use Rattle.rows.specs.Calls.{mode_of}
use Rattle.rows.specs.Calls.Laws.{first, refusing, accepting}
use Rattle.rows.specs.Narrowest.{first_from, tried_of, mode_rows_and_width, Narrowed, narrowest, narrowest_call}

-- what question 5 says
pub asked_ranges : (mode wanted greatest : ℕ) → mode_rows_and_width mode wanted greatest ≡ true → ((1 ≤ mode) × (mode ≤ 2)) × ((1 ≤ wanted) × (wanted ≤ 65535)) × ((1 ≤ greatest) × (greatest ≤ 65535))
asked_ranges mode wanted greatest e =
    let t = and_T (leb 1 mode && leb mode 2) ((leb 1 wanted && leb wanted 65535) && (leb 1 greatest && leb greatest 65535)) (true_T e) in
    let u = and_T (leb 1 wanted && leb wanted 65535) (leb 1 greatest && leb greatest 65535) t.1 in
    (in_range_law 1 2 mode (is_true _ t.0), in_range_law 1 65535 wanted (is_true _ u.0), in_range_law 1 65535 greatest (is_true _ u.1))

-- tests that answer alike
pub first_alike : (p q : ℕ → Bool) → ((w : ℕ) → p w ≡ q w) → (n w : ℕ) → first_from p n w ≡ first_from q n w
unfolding first_from
first_alike p q same zero w = refl
first_alike p q same (suc n) w = rw (same w, first_alike p q same n (suc w)) refl

module _ (P : Profile) (conv places mode wanted greatest : ℕ) (line : List ℕ) where
  abbrev found : List Span
  found = spans P (convert P line)

  abbrev pub width : ℕ
  width = narrowest P (mode_of mode) wanted greatest found

  abbrev question5 : Question
  question5 = ask 5 (mode_rows_and_width mode wanted greatest)

  abbrev by : ℕ → Narrowed
  by r = record { number = r; count = counted width r; tried = counted (tried_of greatest width) r; conv = lent 0 conv (convert P line) r; spans = lent no_record places (records found) r }

  call_by : narrowest_call P conv places mode wanted greatest line ≡ by (decide (first P conv places line ++ (question5 ∷ [])))
  unfolding narrowest_call
  call_by = refl

  -- refused with number n
  abbrev pub nothing : ℕ → Narrowed
  nothing n = record { number = n; count = 0; tried = 0; conv = replicate conv 0; spans = replicate places no_record }

  by_none : (r : ℕ) → by (suc r) ≡ nothing (suc r)
  by_none r = simp (lent_refused, counted_refused)

  pub narrowest_refused : (r : ℕ) → (read_call P conv places [] line).number ≡ suc r → narrowest_call P conv places mode wanted greatest line ≡ nothing (suc r)
  narrowest_refused r e = call_by ∙ ap by (refusing P conv places line r _ e) ∙ by_none r

  module _ (fine : (read_call P conv places [] line).number ≡ 0) where
    pub narrowest_five : mode_rows_and_width mode wanted greatest ≡ false → narrowest_call P conv places mode wanted greatest line ≡ nothing 5
    narrowest_five e = call_by ∙ ap by (accepting P conv places line _ fine ∙ decide_no question5 [] e) ∙ by_none 4

    pub narrowest_accepted : mode_rows_and_width mode wanted greatest ≡ true
        → narrowest_call P conv places mode wanted greatest line ≡ record { number = 0; count = width; tried = tried_of greatest width; conv = (read_call P conv places [] line).conv; spans = (read_call P conv places [] line).spans }
    narrowest_accepted e =
        rw (unmatched_accepted P conv places line fine) (call_by ∙ ap by (accepting P conv places line _ fine ∙ decide_yes question5 [] e ∙ decide_nil) ∙ simp (lent_accepted, counted_accepted))
