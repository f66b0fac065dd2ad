use native.Mathlib.Omega.{arith}
use mathlib.Core.Path.{◌∙◌}
use Rattle.text.specs.Class.{controls, extends, pictographs}
use Rattle.text.specs.Class.Ranges.{clear}
use Rattle.text.specs.Class.Document01.{jamo_class, mark_class, other_class, quiet_test}
use Rattle.text.proofs.class.low_class.Goals as goal

pub returns-then-x-le879 : goal.returns-then-x-le879
returns-then-x-le879 c = search mark_class

pub returns-then-x-le1154 : goal.returns-then-x-le1154
unfolding quiet_test clear controls extends pictographs
returns-then-x-le1154 c = other_class _ 0x370 0x482 _ tt (omega arith) (omega arith)

pub returns : goal.returns
returns c = c.jamo_class.ensures ∙ jamo_class _ _ (omega arith) (omega arith)
