use Rattle.buffer.specs.Sink.Laws.{then_emit}
use Rattle.marks.proofs.composed.push_front.Goals as goal

pub returns : goal.returns
returns c = search then_emit
