use Prim.Native.Nat.{◌-◌}
use lib.ListN.{length}
use Rattle.text.specs.Class.Code.{profile_of}
use Rattle.spans.proofs.TextEnd.{ClustersLoop}
use Rattle.spans.proofs.reader.clusters_end.Given as goal

abbrev pub invariant-loop-u : goal.invariant-loop-u
invariant-loop-u l = ClustersLoop (profile_of l.profile) l.t l.at l.p l.u

abbrev pub decreases-loop-u : goal.decreases-loop-u
decreases-loop-u l = length l.t - l.p
