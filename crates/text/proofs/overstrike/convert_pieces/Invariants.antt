use Prim.Native.Nat.{◌-◌}
use mathlib.Core.Path.{◌≡◌}
use lib.ListN.{length}
use Rattle.text.specs.Class.Code.{profile_of}
use Rattle.text.proofs.Converting.{Pieces}
use Rattle.text.proofs.overstrike.convert_pieces.Given as goal

abbrev pub invariant-loop-done : goal.invariant-loop-done
invariant-loop-done l = Pieces (profile_of l.profile) l.line l.out l.done × (length l.out ≡ length l.initial.out)

abbrev pub decreases-loop-done : goal.decreases-loop-done
decreases-loop-done l = length l.line - l.done.read
