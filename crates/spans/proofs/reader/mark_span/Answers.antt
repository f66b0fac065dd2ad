use Rattle.spans.proofs.SpanSteps.{mark_part_law, mark_step}
use Rattle.spans.proofs.reader.mark_span.Goals as goal

pub head_at-l-requires : goal.head_at-l-requires
head_at-l-requires c = search mark_part_law

pub returns : goal.returns
returns c = search mark_step
