use Rattle.show_io.proofs.Refusals.{said}
use Rattle.show_io.proofs.SpanText.{sequence_last}
use Rattle.show_io.specs.SpanText.{sequence_word}
use Rattle.show_io.proofs.span_text.push_sequence_word.Goals as goal

pub returns-then-kind-eq6 : goal.returns-then-kind-eq6
unfolding sequence_word
returns-then-kind-eq6 c = said sequence_word 6 _ _ _ c.before.before.before.before.before.if-kind-eq6.true c.before.before.push_elements.ensures

pub returns-then-kind-eq7 : goal.returns-then-kind-eq7
unfolding sequence_word
returns-then-kind-eq7 c = said sequence_word 7 _ _ _ c.before.before.before.before.before.if-kind-eq7.true c.before.before.push_elements-then-kind-eq7.ensures

pub returns-then-kind-eq8 : goal.returns-then-kind-eq8
unfolding sequence_word
returns-then-kind-eq8 c = said sequence_word 8 _ _ _ c.before.before.before.before.before.if-kind-eq8.true c.before.before.push_elements-then-kind-eq8.ensures

pub returns-then-kind-eq9 : goal.returns-then-kind-eq9
unfolding sequence_word
returns-then-kind-eq9 c = said sequence_word 9 _ _ _ c.before.before.before.before.before.if-kind-eq9.true c.before.before.push_elements-then-kind-eq9.ensures

pub returns : goal.returns
unfolding sequence_word
returns c = let s = c.before.before.before.before.before in sequence_last _ _ _ s.before.before.before.if-kind-eq6.false s.before.before.if-kind-eq7.false s.before.if-kind-eq8.false s.if-kind-eq9.false c.before.before.push_elements-2.ensures
