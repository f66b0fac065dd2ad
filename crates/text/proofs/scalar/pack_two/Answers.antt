use mathlib.Core.Path.{◌∙◌}
use Rattle.text.proofs.PackedScalars.{letter, greek_letter, mark}
use Rattle.text.proofs.scalar.pack_two.Goals as goal

pub returns-then-x : goal.returns-then-x
returns-then-x c = c.new.ensures ∙ letter _ _ c.if-x.true

pub returns-then-x-2 : goal.returns-then-x-2
returns-then-x-2 c = c.new-then-x-2.ensures ∙ greek_letter _ _ c.if-x-2.true

pub returns-then-x-3 : goal.returns-then-x-3
returns-then-x-3 c = c.new-then-x-3.ensures ∙ mark _ _ c.if-x-3.true
