use Rattle.buffer.specs.Sink.Laws.{emit_copied}
use Rattle.buffer.proofs.any.push_all.Goals as goal

pub returns-then-src-out : goal.returns-then-src-out
returns-then-src-out g c = search emit_copied
