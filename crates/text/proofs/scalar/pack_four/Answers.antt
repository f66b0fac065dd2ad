use mathlib.Core.Path.{◌∙◌}
use Rattle.text.proofs.PackedScalars.{indicator, picture, sign}
use Rattle.text.proofs.scalar.pack_four.Goals as goal

pub returns-then-x : goal.returns-then-x
returns-then-x c = c.new.ensures ∙ indicator _ _ c.if-x.true

pub returns-then-in_pictographs : goal.returns-then-in_pictographs
returns-then-in_pictographs c = c.new-then-in_pictographs.ensures ∙ picture _ _ _ c.in_pictographs.ensures c.if-in_pictographs.true

pub returns-then-x-2 : goal.returns-then-x-2
returns-then-x-2 c = c.new-then-x-2.ensures ∙ sign _ _ c.if-x-2.true
