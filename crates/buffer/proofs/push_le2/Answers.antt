use Rattle.buffer.specs.Sink.{emit}
use Rattle.buffer.specs.Numbers.{le2}
use Rattle.buffer.proofs.push_le2.Goals as goal

pub returns : goal.returns
unfolding emit le2
returns c = cc
