use Rattle.show_io.proofs.SpanText.{answer_spans, answer_refused}
use mathlib.Core.Path.{sym}
use lib.Seq.{length-take-le}
use Rattle.buffer.specs.Numbers.Laws.{smaller_right}
use Rattle.show_io.proofs.lines.push_read.Goals as goal

pub slice_bounds-push_numbers-end : goal.slice_bounds-push_numbers-end
slice_bounds-push_numbers-end c = sym (length-take-le _ _ (search smaller_right))

pub returns-then-answer-eq0 : goal.returns-then-answer-eq0
returns-then-answer-eq0 c = search answer_spans

pub returns : goal.returns
returns c = search answer_refused
