use Rattle.text.specs.Class.{controls, in_any}
use Rattle.text.proofs.SequenceBytes.{zero_leb}
use Rattle.text.proofs.class.in_controls.Goals as goal

pub returns : goal.returns
unfolding in_any controls
returns c = simp zero_leb
