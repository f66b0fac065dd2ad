use Rattle.cache.proofs.Uses.{block_next, block_last}
use Rattle.cache.proofs.wraps.new_block.Goals as goal

pub returns-then-n-lt-MAX_KEPT : goal.returns-then-n-lt-MAX_KEPT
returns-then-n-lt-MAX_KEPT c = search block_next

pub returns-else-n-lt-MAX_KEPT : goal.returns-else-n-lt-MAX_KEPT
returns-else-n-lt-MAX_KEPT c = search block_last
