use Rattle.std.proofs.Common.{rules}
use Rattle.screen.proofs.Writing.{reach_ready, cut_ready, write_step}
use Rattle.screen.proofs.screen.write_cluster.Goals as goal

pub reach-t-requires : goal.reach-t-requires
reach-t-requires c = search reach_ready

pub cut-requires : goal.cut-requires
cut-requires c = search cut_ready

pub returns : goal.returns
returns c = write_step _ _ _ _ _ _ _ c.requires _ _ c.reach-t.ensures c.reach-t.auto.row _ _ _ c.cut.ensures c.set_cluster.ensures (search rules) c.behind.ensures
