use Rattle.show_io.proofs.SpanText.{span_pushed}
use Rattle.show_io.proofs.span_text.push_span.Goals as goal

pub returns : goal.returns
returns c = search span_pushed
