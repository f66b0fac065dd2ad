use mathlib.Core.Path.{refl}
use Rattle.text.specs.Class.{in_any, extends}
use Rattle.text.proofs.class.in_extends.Goals as goal

pub returns : goal.returns
unfolding in_any extends
returns c = refl
