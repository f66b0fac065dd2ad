use Prim.Native.Nat.{◌-◌}
use mathlib.Core.Path.{◌≡◌}
use lib.ListN.{length}
use Rattle.text.specs.Class.Code.{profile_of}
use Rattle.text.proofs.Converting.{Running}
use Rattle.text.proofs.overstrike.convert_unicode_span.Given as goal

abbrev pub invariant-loop-p : goal.invariant-loop-p
invariant-loop-p l = Running (profile_of l.profile) l.line l.out l.p l.st × (length l.out ≡ length l.initial.out)

abbrev pub decreases-loop-p : goal.decreases-loop-p
decreases-loop-p l = length l.line - l.p
