use Rattle.std.proofs.Common.{ap}
use Rattle.spans.specs.Sgr.Contracts.{beginning}
use Rattle.spans.proofs.Parameters.{orders_at_law}
use Rattle.spans.proofs.sgr.Orders.at.Goals as goal

pub returns-clause-orders : goal.returns-clause-orders
returns-clause-orders c = orders_at_law _ _ c.bytes_from.ensures

pub returns-clause-place : goal.returns-clause-place
returns-clause-place c = ap beginning c.bytes_from.ensures
