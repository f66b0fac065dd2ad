use Rattle.buffer.specs.Sink.Laws.{put_in, put_past}
use Rattle.buffer.proofs.push_element.Goals as goal

pub returns-then-at-out : goal.returns-then-at-out
returns-then-at-out g c = search put_in

pub returns-else-at-out : goal.returns-else-at-out
returns-else-at-out g c = rw c.past.ensures (search put_past)
