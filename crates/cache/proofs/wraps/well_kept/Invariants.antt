use Rattle.std.proofs.Common.{◌≡◌, drop}
use Rattle.cache.specs.Wraps.{heads_in, well_kept}
use Rattle.cache.proofs.wraps.well_kept.Given as goal

abbrev pub invariant-loop-i : goal.invariant-loop-i
invariant-loop-i l = well_kept l.n (drop l.i (heads_in 4 l.wraps)) ≡ well_kept l.n (heads_in 4 l.wraps)
