use Rattle.marks.proofs.Composing.{edge_passed, edge_cleared, edge_met}
use Rattle.marks.proofs.composed.push_edge.Goals as goal

pub returns-then-to-columns : goal.returns-then-to-columns
returns-then-to-columns c = search edge_passed

pub returns-then-columns-to : goal.returns-then-columns-to
returns-then-columns-to c = search edge_cleared

pub returns : goal.returns
returns c = search edge_met
