use Rattle.std.proofs.Common.{◌≡◌, length}
use Rattle.spans.specs.Sgr.Contracts.{numbers_left, stand, stand_of, next_order}
use Rattle.spans.proofs.Parameters.{go_on}
use Rattle.spans.proofs.sgr.Orders.next_order.Given as goal

abbrev pub invariant-loop-p : goal.invariant-loop-p
invariant-loop-p l = go_on l.wait (stand_of l.parameters) ≡ next_order (stand l.self)

abbrev pub decreases-loop-p : goal.decreases-loop-p
decreases-loop-p l = length (numbers_left l.parameters)
