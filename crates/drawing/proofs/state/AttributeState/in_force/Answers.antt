use Rattle.drawing.proofs.Changes.{same_style}
use Rattle.drawing.proofs.state.AttributeState.in_force.Goals as goal

pub returns : goal.returns
returns c = cc (same_style c.args.self.now.style c.args.style)
