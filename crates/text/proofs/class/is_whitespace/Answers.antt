use mathlib.Core.Path.{refl}
use Rattle.text.specs.Class.{in_any, whitespace}
use Rattle.text.proofs.class.is_whitespace.Goals as goal

pub returns : goal.returns
unfolding whitespace in_any
returns c = refl
