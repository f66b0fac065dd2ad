use Rattle.std.proofs.Common.{rules}
use Rattle.spans.proofs.Parameters.{scan_begins, scan_digit, scan_next, scan_past, scan_stops}
use Rattle.spans.proofs.sgr.scan_parameters.Goals as goal
use Rattle.spans.proofs.sgr.scan_parameters.Goals.{then-s-i, else-s-i+else-is_digit+then-s-i-ne59}

pub params-init : goal.params-init
params-init c = search scan_begins

pub digits-preserved : goal.digits-preserved
digits-preserved c = (search scan_digit, search rules)

pub params-preserved : goal.params-preserved
params-preserved c = search scan_next

pub returns : goal.returns
returns c = elim c.if-s-i.branch [
  | then-s-i w ↦ search scan_past
  | else-s-i+else-is_digit+then-s-i-ne59 w ↦ search scan_stops
]
