use mathlib.Core.Path.{◌∙◌}
use Rattle.text.proofs.PackedScalars.{printable_one, carriage, line_feed, lone_control}
use Rattle.text.proofs.scalar.pack_one.Goals as goal

pub returns-then-x : goal.returns-then-x
returns-then-x c = c.new.ensures ∙ printable_one _ _ c.if-x.true

pub returns-then-x-eq13 : goal.returns-then-x-eq13
returns-then-x-eq13 c = c.new-then-x-eq13.ensures ∙ carriage _ _ c.if-x-eq13.true

pub returns-then-x-eq10 : goal.returns-then-x-eq10
returns-then-x-eq10 c = c.new-then-x-eq10.ensures ∙ line_feed _ _ c.if-x-eq10.true

pub returns : goal.returns
returns c = c.new-2.ensures ∙ lone_control _ _ c.requires c.if-x.false c.if-x-eq13.false c.if-x-eq10.false
