use Rattle.screen.proofs.Clusters.{cluster_back, cluster_narrow, cluster_passes, cluster_written}
use Rattle.screen.proofs.screen.on_cluster.Goals as goal

pub returns-then-byte_at-e : goal.returns-then-byte_at-e
returns-then-byte_at-e c = search cluster_back

pub returns-then-w-eq0 : goal.returns-then-w-eq0
returns-then-w-eq0 c = search cluster_narrow

pub returns-then-width-t : goal.returns-then-width-t
returns-then-width-t c = search cluster_passes

pub returns : goal.returns
returns c = search cluster_written
