use Rattle.std.proofs.Common.{rules}
use Rattle.screen.proofs.Clearing.{clear_reaches, clear_cuts, clear_step}
use Rattle.screen.proofs.screen.clear_to_end.Goals as goal

pub reach-u-requires : goal.reach-u-requires
reach-u-requires c = search clear_reaches

pub cut_left-requires : goal.cut_left-requires
cut_left-requires c = search clear_cuts

pub returns : goal.returns
returns c = clear_step _ _ _ _ _ c.requires _ c.cursor-c.ensures _ _ c.reach-u.ensures c.reach-u.auto.row _ c.cut_left.ensures (search rules)
