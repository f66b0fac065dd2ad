use Rattle.screen.proofs.Cells.{blank_cell, cluster_cell}
use Rattle.screen.proofs.row.is_later.Goals as goal

pub returns-then-cluster-eq0 : goal.returns-then-cluster-eq0
returns-then-cluster-eq0 c = search blank_cell

pub returns : goal.returns
returns c = search cluster_cell
