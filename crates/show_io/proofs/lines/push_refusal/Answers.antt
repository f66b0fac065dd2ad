use Rattle.show_io.proofs.Refusals.{refusal_pushed}
use Rattle.show_io.proofs.lines.push_refusal.Goals as goal

pub returns : goal.returns
returns c = search refusal_pushed
