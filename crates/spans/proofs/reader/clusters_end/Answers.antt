use Rattle.spans.proofs.TextEnd.{clusters_begin, clusters_less, clusters_more, clusters_past, clusters_printable, clusters_ready, clusters_stop}
use Rattle.spans.proofs.reader.clusters_end.Goals as goal

pub loop-u-init : goal.loop-u-init
loop-u-init c = search clusters_begin

pub next_cluster-step-requires : goal.next_cluster-step-requires
next_cluster-step-requires c = clusters_ready _ _ _ _ _ c.loop-u.invariant _ c.in-Some.is

pub returns-then-step-eq0 : goal.returns-then-step-eq0
returns-then-step-eq0 c = clusters_stop _ _ _ _ _ c.loop-u.invariant _ c.in-Some.is _ c.next_cluster-step.ensures c.if-step-eq0.true

pub returns-then-printable-byte_at : goal.returns-then-printable-byte_at
returns-then-printable-byte_at c = clusters_printable _ _ _ _ _ c.loop-u.invariant _ c.in-Some.is _ c.next_cluster-step.ensures c.if-step-eq0.false _ _ _ c.byte_at.ensures c.byte_at-in-Some.ensures c.is_printable-printable.ensures c.if-printable-byte_at.true

pub loop-u-smaller : goal.loop-u-smaller
loop-u-smaller c = clusters_less _ _ _ _ _ c.loop-u.invariant _ c.in-Some.is _ c.next_cluster-step.ensures

pub loop-u-preserved : goal.loop-u-preserved
loop-u-preserved c = clusters_more _ _ _ _ _ c.loop-u.invariant _ c.in-Some.is _ c.next_cluster-step.ensures c.if-step-eq0.false _ _ _ c.byte_at.ensures c.byte_at-in-Some.ensures c.is_printable-printable.ensures c.if-printable-byte_at.false

pub returns : goal.returns
returns c = clusters_past _ _ _ _ _ c.loop-u.invariant c.in_default.is
