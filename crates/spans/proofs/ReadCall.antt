-- The ends of the functions that make up the call `read`.
use mathlib.Core.Path.{◌≡◌, refl, sym, ap, ap₂, ◌∙◌}
use Prim.Native.Nat.{ℕ, suc, ◌-◌, ◌≤◌, ◌<◌}
use native.Mathlib.Omega.{arith}
use mathlib.Core.Bool.{true, false}
use mathlib.Core.List.{List, [], ◌∷◌, ◌++◌}
use lib.ListN.{length, take, replicate, length-append, length-take}
use lib.Seq.{take-append_seam}
use borrow.Author.Tests.{le-leb, lt-leb, leb-true}
use Rattle.std.specs.Prelude.{Result, Ok, Err}
use Rattle.std.specs.Result.{IsErrAnd}
use Rattle.text.specs.Width.{profile01}
use Rattle.text.specs.Overstrike.{convert}
use Rattle.text.specs.Overstrike.Length.{convert_size}
use Rattle.text.specs.Calls.{decide, question1, question2, Converted, convert_call}
use Rattle.text.specs.Calls.Laws.{convert_accepted, convert_number, convert_questions, counted_accepted, counted_refused, decide_nil, decide_no, decide_yes, decided_before, decided_behind, first_yes, lent_accepted, lent_refused}
use Rattle.text.specs.Calls.Code.{number_of, answer_of, kept_by, converted}
use Rattle.text.specs.declared.refusal.Refusal.{Refusal}
use Rattle.text.specs.declared.refusal.Refusal.TheVariants as refusal
use Rattle.spans.specs.Search.{searched_length, in_order, read}
use Rattle.spans.specs.Spans.{Span, Record, records}
use Rattle.spans.specs.Spans.Laws.{records_length}
use Rattle.spans.specs.Calls.{no_record, question3, question4, read_call}
use Rattle.spans.specs.Calls.Laws.{read_questions, read_law}
use Rattle.spans.specs.Calls.Contracts.{Listed, Parsed, listed, read_as}

-- ---- question 3

pub in_order_none : (line matches : List ℕ) → length matches ≡ 0 → true ≡ in_order (searched_length line) 0 matches
unfolding in_order
in_order_none line [] e = refl
in_order_none line (m ∷ ms) e = absurd (omega arith)

-- ---- `try_parse`

module _ (line matches : List ℕ) (spans : List Record) where
  abbrev found : List Span
  found = read profile01 matches line

  pub parse_refused : in_order (searched_length line) 0 matches ≡ false → Parsed line matches spans (Err refusal.MatchesNotInOrder)
  parse_refused e = record { number = sym (decide_no (question3 matches line) (question4 (length spans) found ∷ []) e); list = tt }

  pub parse_listed : (r : Result ℕ Refusal) (rs : List Record) → in_order (searched_length line) 0 matches ≡ true → rs ≡ records found → Listed rs spans r → Parsed line matches spans r
  parse_listed (Ok n) rs e f h =
      let k : length found ≤ length spans = omega (arith, records_length found, ap length f, ap length h.1, h.0, length-take n spans) in
      record {
        number = sym (decide_yes (question3 matches line) (question4 (length spans) found ∷ []) e ∙ decide_yes (question4 (length spans) found) [] (le-leb (length found) (length spans) k) ∙ decide_nil);
        list = (h.0, h.1 ∙ f);
      }
  parse_listed (Err x) rs e f h =
      let k : length spans < length found = omega (arith, records_length found, ap length f, h.1) in
      record {
        number = ap number_of h.0 ∙ sym (decide_yes (question3 matches line) (question4 (length spans) found ∷ []) e ∙ decide_no (question4 (length spans) found) [] (lt-leb (length found) (length spans) k));
        list = tt;
      }

-- ---- `try_read`

-- a refusal's number is not 0
record Refused (e : Refusal) : Type 0 where
  less : ℕ
  is : number_of e ≡ suc less

refused : (e : Refusal) → Refused e
refused refusal.LineTooLong = record { less = 0; is = refl }
refused refusal.ConvTooShort = record { less = 1; is = refl }
refused refusal.MatchesNotInOrder = record { less = 2; is = refl }
refused refusal.SpansTooFew = record { less = 3; is = refl }
refused refusal.OutOfRange = record { less = 4; is = refl }
refused refusal.RowsTooFew = record { less = 5; is = refl }
refused refusal.WindowEmpty = record { less = 6; is = refl }
refused refusal.ClusterWiderThanWindow = record { less = 7; is = refl }
refused refusal.OutputTooShort = record { less = 8; is = refl }
refused refusal.ListMalformed = record { less = 9; is = refl }
refused refusal.TextPassesLastColumn = record { less = 10; is = refl }
refused refusal.BodyTooLong = record { less = 11; is = refl }
refused refusal.CellsMalformed = record { less = 15; is = refl }
refused refusal.ReportTooShort = record { less = 16; is = refl }
refused refusal.NoSuchReader = record { less = 17; is = refl }

module _ (line matches : List ℕ) (size places : ℕ) where
  abbrev cs : List ℕ
  cs = convert profile01 line

  abbrev ss : List Span
  ss = read profile01 matches cs

  -- what a refused call leaves
  left_refused : (e : Refusal) (conv : List ℕ) (spans : List Record) → length conv ≡ size → length spans ≡ places → number_of e ≡ decide (read_questions profile01 size places matches line)
      → read_as (answer_of (Err e)) (kept_by (Err e) 0 conv) (listed (Err e) spans) ≡ read_call profile01 size places matches line
  left_refused e conv spans f g h =
      let r = refused e in
      rw (read_law profile01 size places matches line, ← h, r.is, f, g, counted_refused, lent_refused {A = ℕ} 0, lent_refused no_record) refl

  module _ (conv : List ℕ) (c : Result ℕ Refusal) (z : converted (answer_of c) (kept_by c 0 conv) ≡ convert_call profile01 size line) (long : length conv ≡ size) where
    questions_are : decide (convert_questions profile01 size line) ≡ (answer_of c).number
    questions_are = sym (ap (λ (x : Converted). x.number) z ∙ convert_number profile01 size line)

    -- the converted line does not fit
    pub convert_refuses : (e : Refusal) → c ≡ Err e → (spans : List Record) → length spans ≡ places → (r : Result ℕ Refusal) → IsErrAnd r (λ x. x ≡ e)
        → read_as (answer_of r) (kept_by r 0 conv) (listed r spans) ≡ read_call profile01 size places matches line
    convert_refuses e k spans g (Ok n) h = absurd h
    convert_refuses e k spans g (Err x) h =
        let r = refused e in
        let d : decide (convert_questions profile01 size line) ≡ suc r.less = questions_are ∙ rw k r.is in
        rw h (left_refused e conv spans long g (r.is ∙ sym (decided_before (convert_questions profile01 size line) (question3 matches cs ∷ question4 places ss ∷ []) r.less d)))

    module _ (n : ℕ) (k : c ≡ Ok n) where
      passed : decide (convert_questions profile01 size line) ≡ 0
      passed = questions_are ∙ rw k refl

      converted_is : ◌≡◌ {A = Converted} (record { number = 0; count = n; conv = conv }) (record { number = 0; count = length cs; conv = cs ++ replicate (size - length cs) 0 })
      converted_is = (rw k at z) ∙ convert_accepted profile01 size line passed

      count_is : n ≡ length cs
      count_is = ap (λ (x : Converted). x.count) converted_is

      conv_is : conv ≡ cs ++ replicate (size - length cs) 0
      conv_is = ap (λ (x : Converted). x.conv) converted_is

      pub count_fits : n ≤ length conv
      count_fits = omega (arith, count_is, ap length conv_is, length-append cs (replicate (size - length cs) 0))

      line_is : take n conv ≡ cs
      line_is = ap₂ take count_is conv_is ∙ take-append_seam cs (replicate (size - length cs) 0)

      pub line_small : length (take n conv) ≤ 65536
      line_small = rw line_is (omega (arith, convert_size profile01 line, leb-true (length line) 4096 (first_yes (question1 line) (question2 size line ∷ []) tt passed).0))

      module _ (spans : List Record) (few : length spans ≡ places) (r : Result ℕ Refusal) (p : Parsed (take n conv) matches spans r) where
        number_is : (answer_of r).number ≡ decide (read_questions profile01 size places matches line)
        number_is =
            p.number ∙ ap₂ (λ (l : List ℕ) (i : ℕ). decide (question3 matches l ∷ question4 i (read profile01 matches l) ∷ [])) line_is few
            ∙ sym (decided_behind (convert_questions profile01 size line) (question3 matches cs ∷ question4 places ss ∷ []) tt passed)

      pub read_done : (spans : List Record) → length spans ≡ places → (r : Result ℕ Refusal) → Parsed (take n conv) matches spans r
          → read_as (answer_of r) (kept_by r 0 conv) (listed r spans) ≡ read_call profile01 size places matches line
      read_done spans few (Ok m) p =
          let d : 0 ≡ decide (read_questions profile01 size places matches line) = number_is spans few (Ok m) p in
          let l : take m spans ≡ records ss = p.list.1 ∙ ap (λ (l : List ℕ). records (read profile01 matches l)) line_is in
          let i : m ≡ length ss = omega (arith, p.list.0, ap length l, length-take m spans, records_length ss) in
          let j : length spans - m ≡ places - length (records ss) = omega (arith, few, i, records_length ss) in
          rw (read_law profile01 size places matches line, ← d, l, j, conv_is, i, counted_accepted, lent_accepted {A = ℕ} 0, lent_accepted no_record) refl
      read_done spans few (Err e) p = left_refused e conv spans long few (number_is spans few (Err e) p)
