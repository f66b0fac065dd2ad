use Rattle.text.specs.Class.{class01, in_any, number}
use Rattle.text.specs.Class.Code.{profile_of}
use Rattle.text.specs.Tests.{in_range_law}
use Rattle.text.proofs.ClassNumbers.{numbered}
use Rattle.text.proofs.class.class_in_ranges.Goals as goal

pub returns-then-x-eq13 : goal.returns-then-x-eq13
unfolding number profile_of class01 in_any
returns-then-x-eq13 c = search numbered depth 14 fits 20000

pub returns-then-x-eq10 : goal.returns-then-x-eq10
unfolding number profile_of class01 in_any
returns-then-x-eq10 c = search numbered depth 14 fits 20000

pub returns-then-in_controls : goal.returns-then-in_controls
unfolding number profile_of class01 in_any
returns-then-in_controls c = search numbered depth 14 fits 20000

pub returns-then-in_extends : goal.returns-then-in_extends
unfolding number profile_of class01 in_any
returns-then-in_extends c = search numbered depth 14 fits 20000

pub returns-then-x-eq8205 : goal.returns-then-x-eq8205
unfolding number profile_of class01 in_any
returns-then-x-eq8205 c = search numbered depth 14 fits 20000

pub returns-then-x : goal.returns-then-x
unfolding number profile_of class01 in_any
returns-then-x c = search numbered depth 14 fits 20000

pub returns-then-x-2 : goal.returns-then-x-2
unfolding number profile_of class01 in_any
returns-then-x-2 c = search numbered depth 14 fits 20000

pub returns-then-x-3 : goal.returns-then-x-3
unfolding number profile_of class01 in_any
returns-then-x-3 c = search numbered depth 14 fits 20000

pub syllable_class-requires : goal.syllable_class-requires
syllable_class-requires c = (in_range_law _ _ _ c.if-x-4.true).0

pub returns-then-x-4 : goal.returns-then-x-4
unfolding number profile_of class01 in_any
returns-then-x-4 c = search numbered depth 14 fits 20000

pub returns-then-x-5 : goal.returns-then-x-5
unfolding number profile_of class01 in_any
returns-then-x-5 c = search numbered depth 14 fits 20000

pub returns-then-in_pictographs : goal.returns-then-in_pictographs
unfolding number profile_of class01 in_any
returns-then-in_pictographs c = search numbered depth 14 fits 20000

pub returns : goal.returns
unfolding number profile_of class01 in_any
returns c = search numbered depth 14 fits 20000
