use Rattle.spans.proofs.PlainClusters.{plain_here}
use Rattle.spans.proofs.TextEnd.{other_here, text_control, text_control_behind, text_falls, text_more, text_past, text_stops}
use Rattle.spans.proofs.reader.text_end.Goals as goal

pub loop-i-init : goal.loop-i-init
loop-i-init c = search plain_here

pub returns-then-is_c0_not_cr : goal.returns-then-is_c0_not_cr
returns-then-is_c0_not_cr c = search text_control

pub returns-then-is_c0_not_cr-2 : goal.returns-then-is_c0_not_cr-2
returns-then-is_c0_not_cr-2 c = search text_control_behind

pub clusters_end-end-requires : goal.clusters_end-end-requires
clusters_end-end-requires c = other_here c.before.before.before.before.before.before.before.before.before.before.before.args.t.now _ _ _ c.before.before.byte_at-in-loop-i.ensures c.before.is_c0_not_cr-in-loop-i.ensures c.if-is_c0_not_cr-2.false

pub loop-i-smaller : goal.loop-i-smaller
loop-i-smaller c = text_falls _ _ _ _ _ c.before.before.before.before.before.before.before.before.before.before.before.before.before.loop-i.invariant c.before.before.before.before.before.before.before.before.before.before.before.printable_end-a.ensures.to _ c.before.before.before.before.before.before.before.syllables_and_others_end-b.ensures.to _ _ c.before.before.before.clusters_end-end.ensures c.before.before.byte_at-in-loop-i-2.ensures _ c.before.is_printable.ensures c.if-is_printable.true

pub loop-i-preserved : goal.loop-i-preserved
loop-i-preserved c = text_more _ _ _ _ _ c.before.before.before.before.before.before.before.before.before.before.before.before.before.loop-i.invariant c.before.before.before.before.before.before.before.before.before.before.before.printable_end-a.ensures.to _ c.before.before.before.before.before.before.before.syllables_and_others_end-b.ensures.to _ _ c.before.before.before.clusters_end-end.ensures c.before.before.byte_at-in-loop-i-2.ensures _ c.before.is_printable.ensures c.if-is_printable.true

pub returns-else-is_printable : goal.returns-else-is_printable
returns-else-is_printable c = text_stops _ _ _ _ _ c.before.before.before.before.before.before.before.before.before.before.before.before.before.loop-i.invariant c.before.before.before.before.before.before.before.before.before.before.before.printable_end-a.ensures.to _ c.before.before.before.before.before.before.before.syllables_and_others_end-b.ensures.to _ _ c.before.before.before.clusters_end-end.ensures c.before.before.byte_at-in-loop-i-2.ensures _ c.before.is_printable.ensures c.if-is_printable.false

pub returns : goal.returns
returns c = search text_past
