use Rattle.cache.proofs.Heads.{kept_all, kept_nothing}
use Rattle.cache.proofs.wraps.heads_kept.Goals as goal

pub returns-then-well_kept : goal.returns-then-well_kept
returns-then-well_kept c = search kept_all

pub returns-else-well_kept : goal.returns-else-well_kept
returns-else-well_kept c = search kept_nothing
