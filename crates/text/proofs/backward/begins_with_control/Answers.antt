use Rattle.text.proofs.Erasing.{no_scalar, some_scalar}
use Rattle.text.proofs.backward.begins_with_control.Goals as goal

pub returns-in-Some : goal.returns-in-Some
returns-in-Some c = search some_scalar

pub returns-in-None : goal.returns-in-None
returns-in-None c = search no_scalar
