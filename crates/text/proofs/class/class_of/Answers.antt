use native.Mathlib.Omega.{arith}
use Rattle.text.specs.Class.{controls, extends, pictographs}
use Rattle.text.specs.Tests.{in_range_law}
use Rattle.text.specs.Class.Ranges.{clear}
use Rattle.text.specs.Class.Document01.{low_other, other_class, quiet_test, syllable_class}
use Rattle.text.proofs.class.class_of.Goals as goal

pub returns-then-x : goal.returns-then-x
returns-then-x c = search low_other

pub low_class-requires : goal.low_class-requires
low_class-requires c = (omega arith, omega arith)

pub returns-then-x-2 : goal.returns-then-x-2
unfolding quiet_test clear controls extends pictographs
returns-then-x-2 c = let w = in_range_law _ _ _ c.if-x-2.true in other_class _ 0x2100 0xA95F _ tt w.0 w.1

pub syllable_class-requires : goal.syllable_class-requires
syllable_class-requires c = (in_range_law _ _ _ c.if-x-3.true).0

pub returns-then-x-3 : goal.returns-then-x-3
returns-then-x-3 c = let w = in_range_law _ _ _ c.before.if-x-3.true in syllable_class _ _ w.0 w.1 _ c.syllable_class.ensures

pub returns-then-x-4 : goal.returns-then-x-4
unfolding quiet_test clear controls extends pictographs
returns-then-x-4 c = let w = in_range_law _ _ _ c.if-x-4.true in other_class _ 0x1F650 0x1F8FF _ tt w.0 w.1

pub returns-then-x-5 : goal.returns-then-x-5
unfolding quiet_test clear controls extends pictographs
returns-then-x-5 c = let w = in_range_law _ _ _ c.if-x-5.true in other_class _ 0x1FA00 0xE00FF _ tt w.0 w.1
