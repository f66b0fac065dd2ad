use Rattle.std.proofs.Common.{sym, ◌∙◌}
use Rattle.text.specs.Width.{profile01}
use Rattle.text.specs.Class.Code.{profile_of}
use Rattle.spans.proofs.ReadCall.{parse_refused, parse_listed}
use Rattle.spans.proofs.try_parse.Goals as goal

pub returns-then-not-are_in_order : goal.returns-then-not-are_in_order
returns-then-not-are_in_order c = parse_refused _ _ _ (sym c.are_in_order.ensures ∙ c.if-not-are_in_order.true)

pub returns : goal.returns
unfolding profile01 profile_of
returns c = parse_listed _ _ _ _ _ (sym c.are_in_order.ensures ∙ c.if-not-are_in_order.false) c.begin.ensures.same c.parse_spans.ensures
