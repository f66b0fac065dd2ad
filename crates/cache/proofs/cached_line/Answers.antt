use Rattle.cache.proofs.CachedLine.{line_ready, line_left}
use Rattle.cache.proofs.cached_line.Goals as goal

pub remember-requires : goal.remember-requires
remember-requires c = line_ready _ _ _ _ _ _ _ _ _ _ c.requires c.answer_line-answer.auto.rows c.answer_line-answer.ensures

pub returns : goal.returns
returns c = line_left _ _ _ _ _ _ _ _ _ _ _ _ c.answer_line-answer.ensures c.remember.ensures
