use Rattle.std.proofs.Common.{◌≡◌, drop}
use Rattle.cache.specs.Wraps.{heads_in, has_block}
use Rattle.cache.proofs.wraps.is_free.Given as goal

abbrev pub invariant-loop-i : goal.invariant-loop-i
invariant-loop-i l = has_block l.block (drop l.i (heads_in 4 l.wraps)) ≡ has_block l.block (drop l.from (heads_in 4 l.wraps))
