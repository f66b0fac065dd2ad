-- A refusal has a number above 0.
use Rattle.std.specs.Prelude.{◌≡◌, ◌<◌}
use Rattle.std.proofs.Common.{arith, lit<}
use Rattle.text.specs.Calls.Code.{number_of}
use Rattle.text.specs.declared.refusal.Refusal.{Refusal}
use Rattle.text.specs.declared.refusal.Refusal.TheVariants.{LineTooLong, ConvTooShort, MatchesNotInOrder, SpansTooFew, OutOfRange, RowsTooFew, WindowEmpty, ClusterWiderThanWindow, OutputTooShort, ListMalformed, TextPassesLastColumn, BodyTooLong, CellsMalformed, ReportTooShort, NoSuchReader}

pub number_some : (e : Refusal) → 0 < number_of e
number_some LineTooLong = lit< tt
number_some ConvTooShort = lit< tt
number_some MatchesNotInOrder = lit< tt
number_some SpansTooFew = lit< tt
number_some OutOfRange = lit< tt
number_some RowsTooFew = lit< tt
number_some WindowEmpty = lit< tt
number_some ClusterWiderThanWindow = lit< tt
number_some OutputTooShort = lit< tt
number_some ListMalformed = lit< tt
number_some TextPassesLastColumn = lit< tt
number_some BodyTooLong = lit< tt
number_some CellsMalformed = lit< tt
number_some ReportTooShort = lit< tt
number_some NoSuchReader = lit< tt

pub number_not_0 : (e : Refusal) → number_of e ≡ 0 → ⊥
number_not_0 e z = omega (arith, number_some e)
