use Rattle.show_io.proofs.SpanText.{byte_plain, byte_marked}
use Rattle.show_io.proofs.span_text.push_visible_byte.Goals as goal

pub returns-then-b : goal.returns-then-b
returns-then-b c = search byte_plain

pub returns : goal.returns
returns c = search byte_marked
