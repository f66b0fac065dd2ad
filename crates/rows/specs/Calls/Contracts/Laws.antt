-- What a call leaves, by what `read` without matches answers; and that it is what `rows` or `height` leaves.
use Rattle.std.specs.Prelude.{◌≡◌, ℕ, zero, suc, ◌-◌, ◌*◌, Bool, true, false, cond, not, ◌&&◌, ◌||◌, List, [], ◌∷◌, ◌++◌, length, replicate, leb, None}
use Rattle.std.specs.Option.{is_none}
use Rattle.std.proofs.Math.Path.{refl}
use Rattle.std.proofs.Common.{sym, ap, ap₂, ◌∙◌, leb-true, leb-false}
use Rattle.text.specs.Tests.{cases}
use Rattle.text.specs.Width.{profile01}
use Rattle.text.specs.Overstrike.{convert}
use Rattle.text.specs.Calls.{Question, ask, decide, lent, counted}
use Rattle.text.specs.Calls.Laws.{decide_nil, decide_yes, decide_no, lent_accepted, lent_refused, counted_accepted, counted_refused}
use Rattle.spans.specs.Spans.{Span, spans, records}
use Rattle.spans.specs.Calls.{Read, read_call, no_record}
use Rattle.spans.specs.Calls.Laws.{unmatched_accepted}
use Rattle.rows.specs.Rows.{Row, rows}
use Rattle.rows.specs.Calls.{mode_of, mode_and_width, numbers_of, Wrapped, rows_call, height_call}
use Rattle.rows.specs.Calls.Laws.{first, refusing, accepting, height_refused, height_five, height_accepted, rows_refused, rows_five, rows_six, rows_accepted}
use Rattle.rows.specs.Calls.Contracts.{row_count, refused, answered}
use Rattle.rows.specs.Numbers.{read_of}
use Rattle.rows.specs.declared.Request.{Request}

module _ (q : Request) (size places numbers : ℕ) (line : List ℕ) where
  abbrev found : List Span
  found = spans profile01 (convert profile01 line)

  abbrev pub rows_found : List Row
  rows_found = rows profile01 q.width (mode_of q.mode) found

  abbrev pub count : ℕ
  count = row_count q (length rows_found)

  abbrev pub pairs : List ℕ
  pairs = cond (is_none q.known && leb (2 * length rows_found) numbers) (numbers_of rows_found) []

  abbrev call : Read
  call = read_call profile01 size places [] line

  abbrev question5 : Question
  question5 = ask 5 (mode_and_width q.mode q.width)

  abbrev pub listable : Bool
  listable = not q.listed || leb (2 * count) numbers

  abbrev by : ℕ → Wrapped
  by r = record { number = r; count = counted count r; conv = lent 0 size (convert profile01 line) r; spans = lent no_record places (records found) r; rows = lent 0 numbers pairs r }

  answered_by : answered q size places numbers line ≡ by (decide (first profile01 size places line ++ (question5 ∷ ask 6 listable ∷ [])))
  unfolding answered
  answered_by = refl

  abbrev pub nothing : ℕ → Wrapped
  nothing n = refused n size places numbers

  by_none : (r : ℕ) → by (suc r) ≡ nothing (suc r)
  by_none r = simp (lent_refused, counted_refused)

  pub answered_refused : (r : ℕ) → call.number ≡ suc r → answered q size places numbers line ≡ nothing (suc r)
  answered_refused r e = answered_by ∙ ap by (refusing profile01 size places line r _ e) ∙ by_none r

  module _ (fine : call.number ≡ 0) where
    pub answered_five : mode_and_width q.mode q.width ≡ false → answered q size places numbers line ≡ nothing 5
    answered_five e = answered_by ∙ ap by (accepting profile01 size places line _ fine ∙ decide_no question5 _ e) ∙ by_none 4

    module _ (e : mode_and_width q.mode q.width ≡ true) where
      sixth : answered q size places numbers line ≡ by (decide (ask 6 listable ∷ []))
      sixth = answered_by ∙ ap by (accepting profile01 size places line _ fine ∙ decide_yes question5 _ e)

      pub answered_six : listable ≡ false → answered q size places numbers line ≡ nothing 6
      answered_six h = sixth ∙ ap by (decide_no (ask 6 listable) [] h) ∙ by_none 5

      pub answered_accepted : listable ≡ true
          → answered q size places numbers line ≡ record { number = 0; count = count; conv = call.conv; spans = call.spans; rows = pairs ++ replicate (numbers - length pairs) 0 }
      answered_accepted h = rw (unmatched_accepted profile01 size places line fine) (sixth ∙ ap by (decide_yes (ask 6 listable) [] h ∙ decide_nil) ∙ simp (lent_accepted, counted_accepted))

  -- ---- it is what the calls leave

  module _ (new : q.known ≡ None) where
    count_is : count ≡ length rows_found
    unfolding row_count
    count_is = rw new

    module _ (listed : q.listed ≡ true) where
      listable_is : listable ≡ leb (2 * length rows_found) numbers
      listable_is = ap₂ (λ (b : Bool) (n : ℕ). not b || leb (2 * n) numbers) listed count_is

      rows_at : (n : ℕ) → call.number ≡ n → answered q size places numbers line ≡ rows_call profile01 size places numbers q.width q.mode line
      rows_at (suc r) e = answered_refused r e ∙ sym (rows_refused profile01 size places line q.width q.mode numbers r e)
      rows_at zero e =
          cases (mode_and_width q.mode q.width)
          (λ a. cases (leb (2 * length rows_found) numbers)
          (λ b. answered_accepted e a (listable_is ∙ b) ∙ rw (count_is, new, b) (sym (rows_accepted profile01 size places line q.width q.mode numbers e a (leb-true _ _ b))))
          (λ b. answered_six e a (listable_is ∙ b) ∙ sym (rows_six profile01 size places line q.width q.mode numbers e a (leb-false _ _ b))))
          (λ a. answered_five e a ∙ sym (rows_five profile01 size places line q.width q.mode numbers e a))

      pub answered_rows : answered q size places numbers line ≡ rows_call profile01 size places numbers q.width q.mode line
      answered_rows = rows_at call.number refl

    module _ (unlisted : q.listed ≡ false) where
      height_at : (n : ℕ) → call.number ≡ n → read_of (answered q size places numbers line) ≡ height_call profile01 size places q.width q.mode line
      height_at (suc r) e = ap read_of (answered_refused r e) ∙ sym (height_refused profile01 size places line q.width q.mode r e)
      height_at zero e =
          cases (mode_and_width q.mode q.width)
          (λ a. ap read_of (answered_accepted e a (rw unlisted refl)) ∙ rw count_is (sym (height_accepted profile01 size places line q.width q.mode e a)))
          (λ a. ap read_of (answered_five e a) ∙ sym (height_five profile01 size places line q.width q.mode e a))

      pub answered_height : read_of (answered q size places numbers line) ≡ height_call profile01 size places q.width q.mode line
      answered_height = height_at call.number refl
