use Rattle.text.specs.Scalar.Laws.{class_known}
use Rattle.text.proofs.PackedScalars.{class_none, class_some}
use Rattle.text.proofs.backward.Written.class_at.Goals as goal

pub class-requires : goal.class-requires
class-requires c = search class_known

pub returns-in-Some : goal.returns-in-Some
returns-in-Some c = search class_some

pub returns-in-None : goal.returns-in-None
returns-in-None c = search class_none
