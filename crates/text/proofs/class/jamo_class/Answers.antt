use Rattle.text.specs.Class.{number}
use Rattle.text.proofs.ClassNumbers.{numbered}
use Rattle.text.proofs.class.jamo_class.Goals as goal

pub returns-then-x-le4447 : goal.returns-then-x-le4447
unfolding number
returns-then-x-le4447 c = search numbered

pub returns-then-x-le4519 : goal.returns-then-x-le4519
unfolding number
returns-then-x-le4519 c = search numbered

pub returns : goal.returns
unfolding number
returns c = search numbered
