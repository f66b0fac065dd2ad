-- What a call returned and left, as the code has it.
use Rattle.std.specs.Prelude.{ℕ, List, length, replicate, Result, Ok, Err}
use Rattle.text.specs.Calls.{Converted, Written}
use Rattle.text.specs.declared.Answer.{Answer}
use Rattle.text.specs.declared.refusal.Refusal.{Refusal}
use Rattle.text.specs.declared.refusal.Refusal.TheVariants.{LineTooLong, ConvTooShort, MatchesNotInOrder, SpansTooFew, OutOfRange, RowsTooFew, WindowEmpty, ClusterWiderThanWindow, OutputTooShort, ListMalformed, TextPassesLastColumn, BodyTooLong, CellsMalformed, ReportTooShort, NoSuchReader}
pub mod Laws

-- a refusal's number
abbrev pub number_of : Refusal → ℕ
number_of LineTooLong = 1
number_of ConvTooShort = 2
number_of MatchesNotInOrder = 3
number_of SpansTooFew = 4
number_of OutOfRange = 5
number_of RowsTooFew = 6
number_of WindowEmpty = 7
number_of ClusterWiderThanWindow = 8
number_of OutputTooShort = 9
number_of ListMalformed = 10
number_of TextPassesLastColumn = 11
number_of BodyTooLong = 12
number_of CellsMalformed = 16
number_of ReportTooShort = 17
number_of NoSuchReader = 18

-- 0 and a count, or a refusal's number and 0
abbrev pub answer_of : Result ℕ Refusal → Answer
answer_of (Ok n) = record { number = 0; count = n }
answer_of (Err e) = record { number = number_of e; count = 0 }

-- lent memory where the call is accepted, else blanks
abbrev pub kept_by : {A : Type 0} → Result ℕ Refusal → A → List A → List A
kept_by (Ok n) blank l = l
kept_by (Err e) blank l = replicate (length l) blank

abbrev pub converted : Answer → List ℕ → Converted
converted r l = record { number = r.number; count = r.count; conv = l }

abbrev pub written : Answer → List ℕ → Written
written r l = record { number = r.number; count = r.count; out = l }
