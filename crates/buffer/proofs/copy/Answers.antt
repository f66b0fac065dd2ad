use Rattle.std.proofs.Common.{rules}
use Rattle.buffer.specs.Sink.Laws.{copy_item}
use Rattle.buffer.proofs.copy.Goals as goal

pub loop-j-preserved : goal.loop-j-preserved
loop-j-preserved g c = (search copy_item, search rules)
