use Prim.Native.Nat.{◌-◌}
use lib.ListN.{length}
use Rattle.spans.proofs.SyllablesAndOthers.{SyllablesLoop}
use Rattle.spans.proofs.reader.syllables_and_others_end.Given as goal

abbrev pub invariant-loop-next : goal.invariant-loop-next
invariant-loop-next l = SyllablesLoop l.profile l.t l.at l.i l.next

abbrev pub decreases-loop-next : goal.decreases-loop-next
decreases-loop-next l = length l.t - l.next
