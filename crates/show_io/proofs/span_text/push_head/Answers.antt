use Rattle.show_io.proofs.SpanText.{head_pushed}
use Rattle.show_io.proofs.span_text.push_head.Goals as goal

pub returns : goal.returns
returns c = search head_pushed
