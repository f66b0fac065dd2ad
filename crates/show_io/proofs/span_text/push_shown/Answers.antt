use Rattle.show_io.proofs.SpanText.{shown_plain, shown_visible}
use Rattle.show_io.proofs.span_text.push_shown.Goals as goal

pub returns-then-kind-eq1 : goal.returns-then-kind-eq1
returns-then-kind-eq1 c = search shown_plain

pub returns : goal.returns
returns c = search shown_visible
