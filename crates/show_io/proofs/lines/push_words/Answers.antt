use Rattle.show_io.proofs.Refusals.{said, said_last}
use Rattle.show_io.specs.Lines.{words}
use Rattle.show_io.proofs.lines.push_words.Goals as goal

pub returns-then-number-eq1 : goal.returns-then-number-eq1
unfolding words
returns-then-number-eq1 c = said words 1 _ _ _ c.before.before.before.before.before.if-number-eq1.true c.before.before.push_elements.ensures

pub returns-then-number-eq4 : goal.returns-then-number-eq4
unfolding words
returns-then-number-eq4 c = said words 4 _ _ _ c.before.before.before.before.before.if-number-eq4.true c.before.before.push_elements-then-number-eq4.ensures

pub returns-then-number-eq5 : goal.returns-then-number-eq5
unfolding words
returns-then-number-eq5 c = said words 5 _ _ _ c.before.before.before.before.before.if-number-eq5.true c.before.before.push_elements-then-number-eq5.ensures

pub returns-then-number-eq8 : goal.returns-then-number-eq8
unfolding words
returns-then-number-eq8 c = said words 8 _ _ _ c.before.before.before.before.before.if-number-eq8.true c.before.before.push_elements-then-number-eq8.ensures

pub returns-then-number-eq9 : goal.returns-then-number-eq9
unfolding words
returns-then-number-eq9 c = said words 9 _ _ _ c.before.before.before.before.before.if-number-eq9.true c.before.before.push_elements-then-number-eq9.ensures

pub returns : goal.returns
unfolding words
returns c = let s = c.before.before.before.before.before in said_last _ _ _ s.before.before.before.before.if-number-eq1.false s.before.before.before.if-number-eq4.false s.before.before.if-number-eq5.false s.before.if-number-eq8.false s.if-number-eq9.false c.before.before.push_elements-2.ensures
