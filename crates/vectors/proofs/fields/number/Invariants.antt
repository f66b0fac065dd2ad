use mathlib.Core.Path.{◌≡◌}
use lib.ListN.{drop}
use Rattle.vectors.specs.Fields.{decimal}
use Rattle.vectors.proofs.fields.number.Given as goal

abbrev pub invariant-loop-b : goal.invariant-loop-b
invariant-loop-b l = decimal l.v (drop l.b-index l.digits) ≡ decimal 0 l.digits
