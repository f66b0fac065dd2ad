use Rattle.drawing.proofs.Changes.{style_kept, style_new}
use Rattle.drawing.proofs.state.AttributeState.style.Goals as goal

pub returns-then-in_force : goal.returns-then-in_force
returns-then-in_force c = search style_kept

pub returns : goal.returns
returns c = search style_new
