use Rattle.spans.proofs.SpanSteps.{control_escape, control_mark}
use Rattle.spans.proofs.reader.control_span.Goals as goal

pub escape_span-requires : goal.escape_span-requires
escape_span-requires c = search control_escape

pub mark_span-requires : goal.mark_span-requires
mark_span-requires c = search control_mark
