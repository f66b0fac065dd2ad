use Rattle.show_io.proofs.SpanText.{numbers_all, numbers_few}
use Rattle.show_io.proofs.lines.numbers_len.Goals as goal

pub returns-then-count-n : goal.returns-then-count-n
returns-then-count-n c = search numbers_all

pub returns : goal.returns
returns c = search numbers_few
