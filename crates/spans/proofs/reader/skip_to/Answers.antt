use Rattle.spans.proofs.SkippedClusters.{skip_nothing, skip_inside, skip_last}
use Rattle.spans.proofs.reader.skip_to.Goals as goal

pub returns-then-stop-at : goal.returns-then-stop-at
returns-then-stop-at c = search skip_nothing

pub cluster_end-requires : goal.cluster_end-requires
cluster_end-requires c = search skip_inside

pub returns : goal.returns
returns c = search skip_last
