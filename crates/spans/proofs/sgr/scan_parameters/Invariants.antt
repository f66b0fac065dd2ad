use Prim.Native.Nat.{◌-◌, ◌≤◌}
use lib.ListN.{length}
use Rattle.spans.proofs.Parameters.{Scanning}
use Rattle.spans.proofs.sgr.scan_parameters.Given as goal

abbrev pub invariant-digits : goal.invariant-digits
invariant-digits l = Scanning l.s l.i l.count l.fine l.v × (l.initial.i ≤ l.i)

abbrev pub decreases-digits : goal.decreases-digits
decreases-digits l = length l.s - l.i

abbrev pub invariant-params : goal.invariant-params
invariant-params l = Scanning l.s l.i l.count l.fine l.v

abbrev pub decreases-params : goal.decreases-params
decreases-params l = length l.s - l.i
