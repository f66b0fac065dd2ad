use Rattle.std.proofs.Common.{rules}
use Rattle.buffer.specs.Sink.Laws.{fill_turn}
use Rattle.buffer.proofs.clear.Goals as goal

pub loop-place-preserved : goal.loop-place-preserved
loop-place-preserved g c = fill_turn _ _ _ _ (search rules) (search rules) c.loop-place.invariant
