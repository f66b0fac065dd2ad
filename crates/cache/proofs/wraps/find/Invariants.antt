use Rattle.std.proofs.Common.{◌≡◌, drop}
use Rattle.cache.specs.Wraps.{kept, find}
use Rattle.cache.proofs.wraps.find.Given as goal

abbrev pub invariant-loop-i : goal.invariant-loop-i
invariant-loop-i l = find l.key (drop l.i (kept l.wraps)) ≡ find l.key (kept l.wraps)
