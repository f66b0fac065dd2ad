use Rattle.std.proofs.Common.{rules}
use Rattle.show_io.proofs.SpanText.{numbers_begin, numbers_turn, numbers_end}
use Rattle.show_io.proofs.span_text.push_numbers.Goals as goal

pub loop-i-init : goal.loop-i-init
loop-i-init c = (search rules, search numbers_begin)

pub loop-i-preserved : goal.loop-i-preserved
loop-i-preserved c = (search rules, search numbers_turn)

pub returns : goal.returns
returns c = search numbers_end
