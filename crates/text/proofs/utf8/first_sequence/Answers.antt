use Rattle.std.proofs.Common.{◌∙◌, sym}
use borrow.Author.Tests.{eqb-true}
use Rattle.text.specs.Utf8.Code.FirstSequence.{none_first}
use Rattle.text.proofs.utf8.first_sequence.Goals as goal

pub returns-then-is_empty : goal.returns-then-is_empty
returns-then-is_empty c = none_first _ (eqb-true _ 0 (sym c.is_empty.ensures ∙ c.if-is_empty.true))
