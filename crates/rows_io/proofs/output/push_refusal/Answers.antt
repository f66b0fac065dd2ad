use Rattle.rows_io.proofs.Lines.{refusal_pushed}
use Rattle.rows_io.proofs.output.push_refusal.Goals as goal

pub returns : goal.returns
returns c = search refusal_pushed
