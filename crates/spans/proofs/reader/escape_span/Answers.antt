use Rattle.std.proofs.Common.{rules}
use Rattle.spans.proofs.SpanSteps.{escape_within, escape_fit, escape_ready, escape_step}
use Rattle.spans.proofs.reader.escape_span.Goals as goal

pub sequence_at-requires : goal.sequence_at-requires
sequence_at-requires c = search escape_within

pub overflow_add-c-2 : goal.overflow_add-c-2
overflow_add-c-2 c = let h = escape_fit _ _ c.requires _ c.run_at-run.ensures _ c.sequence_at.ensures _ c.escape_head-l.ensures in search rules

pub skip_to-at-requires : goal.skip_to-at-requires
skip_to-at-requires c = search escape_ready

pub returns : goal.returns
returns c = search escape_step
