-- The call `read` by its four questions, which other calls put first, and then their own.
use Rattle.std.specs.Prelude.{◌≡◌, ℕ, suc, ◌-◌, ◌*◌, ◌≤◌, true, length, replicate}
use Rattle.std.proofs.Math.Path.{refl}
use Rattle.std.proofs.Common.{sym, ap, ◌∙◌, leb-true}
use mathlib.Core.List.{List, [], ◌∷◌, ◌++◌}
use Rattle.text.specs.Class.{Profile}
use Rattle.text.specs.Overstrike.{convert}
use Rattle.text.specs.Calls.{Question, decide, lent, counted, question1, question2}
use Rattle.text.specs.Calls.Laws.{counted_accepted, counted_refused, first_yes, lent_accepted, lent_refused}
use Rattle.spans.specs.Spans.{Span, spans, records}
use Rattle.spans.specs.Search.{read, in_order, searched_length}
use Rattle.spans.specs.Calls.{Read, no_record, question3, question4, read_call}

-- a line that questions 1 to 3 accept
pub record Passed (P : Profile) (conv : ℕ) (matches line : List ℕ) : Type 0 where
  pub short : length line ≤ 4096
  pub room : 8 * length line ≤ conv
  pub ordered : in_order (searched_length (convert P line)) 0 matches ≡ true

module _ (P : Profile) (conv places : ℕ) (matches line : List ℕ) where
  abbrev found : List Span
  found = read P matches (convert P line)

  abbrev pub read_questions : List Question
  read_questions = question1 line ∷ question2 conv line ∷ question3 matches (convert P line) ∷ question4 places found ∷ []

  -- what the call leaves if it decides r
  abbrev read_by : ℕ → Read
  read_by r = record { number = r; count = counted (length found) r; conv = lent 0 conv (convert P line) r; spans = lent no_record places (records found) r }

  pub read_law : read_call P conv places matches line ≡ read_by (decide read_questions)
  unfolding read_call
  read_law = refl

  pub read_number : (read_call P conv places matches line).number ≡ decide read_questions
  read_number = ap (λ (x : Read). x.number) read_law

  -- accepted
  pub read_accepted : (read_call P conv places matches line).number ≡ 0 → read_call P conv places matches line ≡ record { number = 0; count = length found; conv = convert P line ++ replicate (conv - length (convert P line)) 0; spans = records found ++ replicate (places - length (records found)) no_record }
  read_accepted e = read_law ∙ ap read_by (sym read_number ∙ e) ∙ rw (counted_accepted, lent_accepted {A = ℕ} 0, lent_accepted no_record) refl

  -- refused
  pub read_refused : (r : ℕ) → (read_call P conv places matches line).number ≡ suc r → read_call P conv places matches line ≡ record { number = suc r; count = 0; conv = replicate conv 0; spans = replicate places no_record }
  read_refused r e = read_law ∙ ap read_by (sym read_number ∙ e) ∙ rw (counted_refused, lent_refused {A = ℕ} 0, lent_refused no_record) refl

  pub read_passed : (read_call P conv places matches line).number ≡ 0 → Passed P conv matches line
  read_passed e =
      let a = first_yes (question1 line) _ tt (sym read_number ∙ e) in
      let b = first_yes (question2 conv line) _ tt a.1 in
      let c = first_yes (question3 matches (convert P line)) _ tt b.1 in
      record { short = leb-true (length line) 4096 a.0; room = leb-true (8 * length line) conv b.0; ordered = c.0 }

-- without matches, question 3 says yes, and what is found is the line's spans
module _ (P : Profile) (conv places : ℕ) (line : List ℕ) where
  pub unmatched : (read_call P conv places [] line).number ≡ decide (question1 line ∷ question2 conv line ∷ question4 places (spans P (convert P line)) ∷ [])
  unfolding read_call read in_order
  unmatched = refl

  pub unmatched_accepted : (read_call P conv places [] line).number ≡ 0
      → read_call P conv places [] line ≡ record { number = 0; count = length (spans P (convert P line)); conv = convert P line ++ replicate (conv - length (convert P line)) 0; spans = records (spans P (convert P line)) ++ replicate (places - length (records (spans P (convert P line)))) no_record }
  unfolding read
  unmatched_accepted e = read_accepted P conv places [] line e
