use Rattle.screen.proofs.Cells.{cluster_set}
use Rattle.screen.proofs.row.set_cluster.Goals as goal

pub returns : goal.returns
returns c = search cluster_set
