use Rattle.std.proofs.Common.{arith}
use Rattle.cache.proofs.Uses.{keep_many}
use Rattle.cache.proofs.wraps.keep_wrap.Goals as goal

pub returns-then-count-gt-MAX_ROWS : goal.returns-then-count-gt-MAX_ROWS
returns-then-count-gt-MAX_ROWS c = search keep_many

pub add_wrap-requires : goal.add_wrap-requires
add_wrap-requires c = record { kept = c.requires.kept; few = omega arith; room = c.requires.room (omega arith) }
