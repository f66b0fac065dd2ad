use Rattle.buffer.specs.Sink.{emit}
use Rattle.text.proofs.cells.push_struck.Goals as goal

pub returns : goal.returns
unfolding emit
returns c = cc
