use Rattle.buffer.specs.Sink.Laws.{emit_copied}
use Rattle.buffer.proofs.push_elements.Goals as goal

pub returns-then-src-out : goal.returns-then-src-out
returns-then-src-out g c = search emit_copied
