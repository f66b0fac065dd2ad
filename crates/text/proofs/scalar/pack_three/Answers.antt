use mathlib.Core.Path.{◌∙◌}
use Rattle.text.proofs.PackedScalars.{wide, open_syllable, closed_syllable, lead, vowel, final}
use Rattle.text.specs.Tests.{in_range_law}
use Rattle.text.proofs.scalar.pack_three.Goals as goal

pub returns-then-x : goal.returns-then-x
returns-then-x c = c.new.ensures ∙ wide _ _ c.if-x.true

pub overflow_sub-x : goal.overflow_sub-x
overflow_sub-x c = (in_range_law _ _ _ c.if-x-2.true).0

pub returns-then-x-eq0 : goal.returns-then-x-eq0
returns-then-x-eq0 c = c.new-then-x-eq0.ensures ∙ open_syllable _ _ c.if-x-2.true c.if-x-eq0.true

pub returns-then-x-2 : goal.returns-then-x-2
returns-then-x-2 c = c.new-then-x-2.ensures ∙ closed_syllable _ _ c.if-x-2.true c.if-x-eq0.false

pub returns-then-x-3 : goal.returns-then-x-3
returns-then-x-3 c = c.new-then-x-3.ensures ∙ lead _ _ c.if-x-3.true

pub returns-then-x-4 : goal.returns-then-x-4
returns-then-x-4 c = c.new-then-x-4.ensures ∙ vowel _ _ c.if-x-4.true

pub returns-then-x-5 : goal.returns-then-x-5
returns-then-x-5 c = c.new-then-x-5.ensures ∙ final _ _ c.if-x-5.true
