use Rattle.std.proofs.Common.{rules}
use Rattle.show_io.proofs.SpanText.{visible_begin, visible_turn, visible_end}
use Rattle.show_io.proofs.span_text.push_visible.Goals as goal

pub loop-b-init : goal.loop-b-init
loop-b-init c = (search rules, search visible_begin)

pub loop-b-preserved : goal.loop-b-preserved
loop-b-preserved c = (search rules, search visible_turn)

pub returns : goal.returns
returns c = search visible_end
