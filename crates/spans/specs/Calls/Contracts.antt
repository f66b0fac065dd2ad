-- What the contracts of src/lib.rt say beyond the definitions: the call `read`.
use Rattle.std.specs.Prelude.{◌≡◌, ℕ, ◌-◌, ◌≤◌, ◌<◌, List, [], ◌∷◌, ◌++◌, length, take, replicate, Result, Ok, Err, MatchResult, IfOk}
use Rattle.text.specs.Width.{profile01}
use Rattle.text.specs.Calls.{decide}
use Rattle.text.specs.Calls.Code.{answer_of}
use Rattle.text.specs.declared.Answer.{Answer}
use Rattle.text.specs.declared.refusal.Refusal.{Refusal}
use Rattle.text.specs.declared.refusal.Refusal.TheVariants.{SpansTooFew}
use Rattle.spans.specs.Search.{read}
use Rattle.spans.specs.Spans.{Record, records}
use Rattle.spans.specs.Calls.{Read, no_record, question3, question4}

-- the list has all of the records in front, or too few places for them
abbrev pub Listed : List Record → List Record → Result ℕ Refusal → Type 0
Listed rs spans r = MatchResult r (λ n. (n ≤ length spans) × (take n spans ≡ rs)) (λ e. (e ≡ SpansTooFew) × (length spans < length rs))

-- questions 3 and 4 of a converted line, and where they say yes its records
pub record Parsed (line matches : List ℕ) (spans : List Record) (r : Result ℕ Refusal) : Type 0 where
  pub number : (answer_of r).number ≡ decide (question3 matches line ∷ question4 (length spans) (read profile01 matches line) ∷ [])
  pub list : IfOk r (λ n. (n ≤ length spans) × (take n spans ≡ records (read profile01 matches line)))

abbrev pub read_as : Answer → List ℕ → List Record → Read
read_as a conv spans = record { number = a.number; count = a.count; conv = conv; spans = spans }

-- the records of an accepted call, and places that hold none after them; no record of a refused one
abbrev pub listed : Result ℕ Refusal → List Record → List Record
listed (Ok n) spans = take n spans ++ replicate (length spans - n) no_record
listed (Err e) spans = replicate (length spans) no_record
