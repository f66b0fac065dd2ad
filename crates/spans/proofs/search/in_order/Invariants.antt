use Rattle.std.proofs.Common.{◌≡◌, length}
use Rattle.spans.specs.Search.{in_order}
use Rattle.spans.proofs.search.in_order.Given as goal

abbrev pub invariant-loop-rest : goal.invariant-loop-rest
invariant-loop-rest l = in_order l.most l.end l.rest ≡ in_order l.most 0 l.matches

abbrev pub decreases-loop-rest : goal.decreases-loop-rest
decreases-loop-rest l = length l.rest
