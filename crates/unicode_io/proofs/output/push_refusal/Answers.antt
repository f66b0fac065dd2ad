use Rattle.unicode_io.specs.Text.{ascii}
use Rattle.unicode_io.specs.Output.Laws.{refusal_pushed}
use Rattle.unicode_io.proofs.output.push_refusal.Goals as goal

pub returns : goal.returns
unfolding ascii
returns c = search refusal_pushed
