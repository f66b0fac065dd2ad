use Rattle.vectors.proofs.FieldText.{spans_all, spans_past}
use Rattle.vectors.proofs.recorded.lent_spans.Goals as goal

pub returns-then-count-buf : goal.returns-then-count-buf
returns-then-count-buf c = search spans_all

pub returns : goal.returns
returns c = search spans_past
