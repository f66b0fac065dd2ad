use Rattle.buffer.specs.Sink.Laws.{emit_part}
use Rattle.buffer.proofs.push_part.Goals as goal

pub returns : goal.returns
returns c = search emit_part
