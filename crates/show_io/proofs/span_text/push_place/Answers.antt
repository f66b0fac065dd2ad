use Rattle.show_io.proofs.SpanText.{place_pushed}
use Rattle.show_io.proofs.span_text.push_place.Goals as goal

pub returns : goal.returns
returns c = search place_pushed
