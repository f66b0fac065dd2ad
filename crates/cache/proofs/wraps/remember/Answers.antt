use Rattle.cache.proofs.Heads.{found_some, found_none}
use Rattle.cache.proofs.Uses.{remember_refused, list_ready, keep_ready, remember_found, remember_new}
use Rattle.cache.proofs.wraps.remember.Goals as goal

pub returns-then-answer-unwrapped_height : goal.returns-then-answer-unwrapped_height
returns-then-answer-unwrapped_height c = search remember_refused

pub list_rows-requires : goal.list_rows-requires
list_rows-requires c = list_ready _ _ _ _ _ _ c.if-answer-unwrapped_height.false c.requires _ (found_some _ _ (rw c.of-key.ensures at c.in-Some.ensures))

pub returns-in-Some : goal.returns-in-Some
returns-in-Some c = remember_found _ _ _ _ _ _ c.if-answer-unwrapped_height.false _ _ _ (found_some _ _ (rw c.of-key.ensures at c.in-Some.ensures)) c.list_rows.ensures c.use_wrap.ensures

pub keep_wrap-requires : goal.keep_wrap-requires
keep_wrap-requires c = keep_ready _ _ _ _ _ _ c.if-answer-unwrapped_height.false c.requires _ c.heads_kept-n.ensures

pub returns-in-None : goal.returns-in-None
returns-in-None c = remember_new _ _ _ _ _ _ c.if-answer-unwrapped_height.false _ (found_none _ (rw c.of-key.ensures at c.in-None.ensures)) (rw c.of-key.ensures at c.keep_wrap.ensures)
