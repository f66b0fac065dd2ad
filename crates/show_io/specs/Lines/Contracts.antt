-- What the contracts of src/lines.rt say.
use Rattle.std.specs.Prelude.{◌≡◌, ◌≢◌, List, ℕ, ◌*◌, cond, take, eqb, Result, MatchResult}
use Rattle.text.specs.declared.Answer.{Answer}
use Rattle.buffer.specs.Sink.{sink, emit}
use Rattle.spans.specs.Calls.{Read}
use Rattle.show_io.specs.SpanText.Contracts.{numbers_text}
use Rattle.show_io.specs.Lines.{Printed, refusal_text}

-- what is printed written to a buffer, up to the count; or the refusal's number, and the buffer as it was
abbrev pub PrintedTo : Printed → (out₀ : List ℕ) (at : ℕ) (out : List ℕ) → Result ℕ ℕ → Type 0
PrintedTo p out₀ at out r =
    MatchResult r (λ n. (p.number ≡ 0) × (sink out n ≡ emit (sink out₀ at) p.text)) (λ refusal. (p.number ≡ refusal) × (refusal ≢ 0) × (out ≡ out₀))

-- the answer alone
pub record AnswerOf (c : Read) (a : Answer) : Type 0 where
  pub number : a.number ≡ c.number
  pub count : a.count ≡ c.count

-- what `read` answered and left, its span list as numbers
unfoldable pub answer_text : (name : List ℕ) (number refusal count : ℕ) (conv numbers : List ℕ) → List ℕ
unfolding numbers_text refusal_text
answer_text name number refusal count conv numbers =
    let all : List ℕ = numbers_text number conv (take (4 * count) numbers) in
    let refused : List ℕ = refusal_text name number refusal in
    cond (eqb refusal 0) all refused
