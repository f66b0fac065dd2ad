use Rattle.drawing.proofs.Sequences.{link_told, no_link}
use Rattle.drawing.proofs.state.AttributeState.render_hyperlink.Goals as goal

pub returns-in-Hyperlink : goal.returns-in-Hyperlink
returns-in-Hyperlink c = search link_told

pub returns-in_default : goal.returns-in_default
returns-in_default c = search no_link
