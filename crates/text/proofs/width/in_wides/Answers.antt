use mathlib.Core.Path.{refl}
use Rattle.text.specs.Class.{in_any}
use Rattle.text.specs.Width.{wides}
use Rattle.text.proofs.width.in_wides.Goals as goal

pub returns : goal.returns
unfolding in_any wides
returns c = refl
