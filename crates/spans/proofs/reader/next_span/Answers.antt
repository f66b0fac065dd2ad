use Rattle.spans.proofs.SpanSteps.{control_ready, invalid_step, mark_ready, special_done, text_done, text_up}
use Rattle.spans.proofs.reader.next_span.Goals as goal

pub control_span-requires : goal.control_span-requires
control_span-requires c = search control_ready

pub returns-then-is_c0_not_cr : goal.returns-then-is_c0_not_cr
returns-then-is_c0_not_cr c = search special_done

pub returns-in_default : goal.returns-in_default
returns-in_default c = invalid_step _ _ _ c.requires _ c.scalar_at.ensures _ _ c.in_default.is c.invalid_span.ensures

pub mark_span-requires : goal.mark_span-requires
mark_span-requires c = mark_ready _ _ _ c.requires _ c.in-Some.ensures _ c.next_cluster.ensures _ _ c.byte_at.ensures c.is_c0_not_cr.ensures c.if-is_c0_not_cr.false c.if-first-eq0.true

pub returns-then-first-eq0 : goal.returns-then-first-eq0
returns-then-first-eq0 c = search special_done

pub text_span-requires : goal.text_span-requires
text_span-requires c = text_up _ _ _ c.requires _ c.in-Some.ensures _ c.next_cluster.ensures c.if-first-eq0.false _ c.text_end-end.ensures

pub returns : goal.returns
returns c = text_done _ _ _ c.requires _ c.in-Some.ensures _ c.next_cluster.ensures c.if-first-eq0.false _ c.text_end-end.ensures _ _ c.text_span.ensures
