use Rattle.screen.proofs.Texts.{texting_begin, text_length, text_some, text_empty, text_ready, text_done, text_malformed, cluster_ready, text_less, text_broken, text_turn}
use Rattle.std.proofs.Common.{◌∙◌, rules, sym}
use Rattle.screen.proofs.screen.on_text.Goals as goal

pub returns-then-start-end : goal.returns-then-start-end
returns-then-start-end c = search text_empty

pub slice_bounds-text-end : goal.slice_bounds-text-end
slice_bounds-text-end c = search text_length

pub scalar_at-scalar-requires : goal.scalar_at-scalar-requires
scalar_at-scalar-requires c = search text_some

pub loop-text-init : goal.loop-text-init
loop-text-init c = search texting_begin

pub next_cluster-step-requires : goal.next_cluster-step-requires
next_cluster-step-requires c = text_ready _ _ _ _ _ _ _ _ _ _ _ _ c.loop-text.invariant (sym c.is_some.ensures ∙ c.loop-text-test.true)

pub on_cluster-requires : goal.on_cluster-requires
on_cluster-requires c = cluster_ready _ _ _ _ _ _ _ _ _ _ _ _ c.loop-text.invariant _ c.next_cluster-step.ensures (sym c.is_some.ensures ∙ c.loop-text-test.true)

pub loop-text-smaller : goal.loop-text-smaller
loop-text-smaller c = text_less _ _ _ _ _ _ _ _ _ _ _ _ c.loop-text.invariant _ c.next_cluster-step.ensures (sym c.is_some.ensures ∙ c.loop-text-test.true)

pub returns-in_err-t : goal.returns-in_err-t
returns-in_err-t c = rw c.from_residual.ensures (text_broken _ _ _ _ _ _ _ _ _ _ _ _ c.loop-text.invariant _ c.next_cluster-step.ensures _ (sym c.is_some.ensures ∙ c.loop-text-test.true) c.in_err-t.ensures)

pub loop-text-preserved : goal.loop-text-preserved
loop-text-preserved c = text_turn _ _ _ _ _ _ _ _ _ _ _ _ c.loop-text.invariant _ c.next_cluster-step.ensures _ _ (sym c.is_some.ensures ∙ c.loop-text-test.true) c.in_ok-t.ensures (search rules)

pub returns-then-p-end : goal.returns-then-p-end
returns-then-p-end c = text_malformed _ _ _ _ _ _ _ _ _ _ _ _ c.loop-text.invariant (sym c.is_some.ensures ∙ c.loop-text-test.false) c.if-p-end.true

pub returns : goal.returns
returns c = search text_done
