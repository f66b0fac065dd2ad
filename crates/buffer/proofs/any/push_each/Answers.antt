use Rattle.std.proofs.Common.{rules}
use Rattle.buffer.specs.Sink.Laws.{emit_item, emit_end}
use Rattle.buffer.proofs.any.push_each.Goals as goal

pub loop-x-preserved : goal.loop-x-preserved
loop-x-preserved g c = (search emit_item, search rules)

pub returns : goal.returns
returns g c = search emit_end
