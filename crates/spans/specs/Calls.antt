-- The call `read`.
use Rattle.std.specs.Prelude.{ℕ, List, [], ◌∷◌, length, leb}
use Rattle.text.specs.Class.{Profile}
use Rattle.text.specs.Overstrike.{convert}
use Rattle.text.specs.Calls.{Question, ask, decide, lent, counted, question1, question2}
use Rattle.spans.specs.Spans.{Span, Record, a_record, records}
use Rattle.spans.specs.Search.{read, in_order, searched_length}
pub mod Laws
pub mod Contracts

-- the match ranges, of the converted line s
abbrev pub question3 : List ℕ → List ℕ → Question
question3 matches s = ask 3 (in_order (searched_length s) 0 matches)

abbrev pub question4 : ℕ → List Span → Question
question4 places ss = ask 4 (leb (length ss) places)

-- a place of the span list that holds zeros
abbrev pub no_record : Record
no_record = a_record 0 0 0 0

-- what `read` returns and leaves
pub record Read : Type 0 where
  pub number : ℕ
  pub count : ℕ
  pub conv : List ℕ
  pub spans : List Record

-- the call `read`, lent a buffer of conv bytes and a list of `places` records
unfoldable pub read_call : Profile → (conv places : ℕ) (matches line : List ℕ) → Read
unfolding decide lent counted convert read in_order searched_length records
read_call P conv places matches line =
    let s : List ℕ = convert P line in
    let ss : List Span = read P matches s in
    let r : ℕ = decide (question1 line ∷ question2 conv line ∷ question3 matches s ∷ question4 places ss ∷ []) in
    record { number = r; count = counted (length ss) r; conv = lent 0 conv s r; spans = lent no_record places (records ss) r }
