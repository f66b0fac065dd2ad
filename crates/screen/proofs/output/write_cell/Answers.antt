use Rattle.screen.proofs.Bytes.{cell_blank, cell_cluster}
use Rattle.screen.proofs.output.write_cell.Goals as goal

pub returns-then-cluster-eq0 : goal.returns-then-cluster-eq0
returns-then-cluster-eq0 c = search cell_blank

pub returns : goal.returns
returns c = search cell_cluster
