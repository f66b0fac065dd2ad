use Rattle.text.specs.Class.{in_any, is_control}
use Rattle.text.proofs.SequenceBytes.{zero_leb}
use Rattle.text.proofs.class.is_control.Goals as goal

pub returns : goal.returns
unfolding is_control in_any
returns c = simp zero_leb
