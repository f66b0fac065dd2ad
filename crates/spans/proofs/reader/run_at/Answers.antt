use Rattle.spans.proofs.SpanSteps.{run_known}
use Rattle.spans.proofs.reader.run_at.Goals as goal

pub returns-then-c : goal.returns-then-c
returns-then-c c = search run_known
