use Rattle.text.specs.Class.{number}
use Rattle.text.proofs.ClassNumbers.{numbered}
use Rattle.text.proofs.class.syllable_class.Goals as goal

pub returns-then-x-eq0 : goal.returns-then-x-eq0
unfolding number
returns-then-x-eq0 c = search numbered

pub returns : goal.returns
unfolding number
returns c = search numbered
