use Rattle.std.proofs.Common.{sym, ◌∙◌}
use borrow.Author.Tests.{eqb-true}
use Rattle.spans.proofs.ReadCall.{in_order_none}
use Rattle.spans.proofs.are_in_order.Goals as goal

pub returns-then-is_empty : goal.returns-then-is_empty
returns-then-is_empty c = rw c.if-is_empty.true (in_order_none c.args.line.now _ (eqb-true _ 0 (sym c.is_empty.ensures ∙ c.if-is_empty.true)))
