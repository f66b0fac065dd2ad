use Rattle.show_io.proofs.Refusals.{said}
use Rattle.show_io.proofs.SpanText.{kind_last}
use Rattle.show_io.specs.SpanText.{kind_word}
use Rattle.show_io.proofs.span_text.push_kind_word.Goals as goal

pub returns-then-kind-eq1 : goal.returns-then-kind-eq1
unfolding kind_word
returns-then-kind-eq1 c = said kind_word 1 _ _ _ c.before.before.before.before.before.if-kind-eq1.true c.before.before.push_elements.ensures

pub returns-then-kind-eq2 : goal.returns-then-kind-eq2
unfolding kind_word
returns-then-kind-eq2 c = said kind_word 2 _ _ _ c.before.before.before.before.before.if-kind-eq2.true c.before.before.push_elements-then-kind-eq2.ensures

pub returns-then-kind-eq3 : goal.returns-then-kind-eq3
unfolding kind_word
returns-then-kind-eq3 c = said kind_word 3 _ _ _ c.before.before.before.before.before.if-kind-eq3.true c.before.before.push_elements-then-kind-eq3.ensures

pub returns-then-kind-eq4 : goal.returns-then-kind-eq4
unfolding kind_word
returns-then-kind-eq4 c = said kind_word 4 _ _ _ c.before.before.before.before.before.if-kind-eq4.true c.before.before.push_elements-then-kind-eq4.ensures

pub returns-then-kind-eq5 : goal.returns-then-kind-eq5
unfolding kind_word
returns-then-kind-eq5 c = said kind_word 5 _ _ _ c.before.before.before.before.before.if-kind-eq5.true c.before.before.push_elements-then-kind-eq5.ensures

pub returns-then-kind-eq10 : goal.returns-then-kind-eq10
unfolding kind_word
returns-then-kind-eq10 c = said kind_word 10 _ _ _ c.before.before.before.before.before.if-kind-eq10.true c.before.before.push_elements-then-kind-eq10.ensures

pub returns-then-kind-eq11 : goal.returns-then-kind-eq11
unfolding kind_word
returns-then-kind-eq11 c = said kind_word 11 _ _ _ c.before.before.before.before.before.if-kind-eq11.true c.before.before.push_elements-then-kind-eq11.ensures

pub returns-then-kind-eq12 : goal.returns-then-kind-eq12
unfolding kind_word
returns-then-kind-eq12 c = said kind_word 12 _ _ _ c.before.before.before.before.before.if-kind-eq12.true c.before.before.push_elements-then-kind-eq12.ensures

pub returns : goal.returns
returns c = search kind_last
