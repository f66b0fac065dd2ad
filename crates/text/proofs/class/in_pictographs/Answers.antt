use mathlib.Core.Path.{refl}
use Rattle.text.specs.Class.{in_any, pictographs}
use Rattle.text.proofs.class.in_pictographs.Goals as goal

pub returns : goal.returns
unfolding in_any pictographs
returns c = refl
