use Rattle.std.proofs.Common.{◌∙◌, sym, eqb-true}
use Rattle.rows.proofs.WrappedTexts.{break_begin, break_end, break_less, break_none, break_ready, break_turn}
use Rattle.rows.proofs.wrap.WrapState.by_clusters.Goals as goal

pub returns-then-is_empty : goal.returns-then-is_empty
returns-then-is_empty c = break_none _ _ _ _ _ _ c.requires (eqb-true _ 0 (sym c.is_empty.ensures ∙ c.if-is_empty.true))

pub loop-wrapping-init : goal.loop-wrapping-init
loop-wrapping-init c = search break_begin

pub next_cluster-step-requires : goal.next_cluster-step-requires
next_cluster-step-requires c = break_ready _ _ _ _ _ _ _ _ _ c.loop-wrapping.invariant (sym c.is_some.ensures ∙ c.loop-wrapping-test.true)

pub loop-wrapping-smaller : goal.loop-wrapping-smaller
loop-wrapping-smaller c = break_less _ _ _ _ _ _ _ _ _ c.loop-wrapping.invariant _ c.next_cluster-step.ensures (sym c.is_some.ensures ∙ c.loop-wrapping-test.true)

pub loop-wrapping-preserved : goal.loop-wrapping-preserved
loop-wrapping-preserved c =
    break_turn _ _ _ _ _ _ _ _ _ c.loop-wrapping.invariant _ c.next_cluster-step.ensures _ _ (sym c.is_some.ensures ∙ c.loop-wrapping-test.true) c.unbroken.ensures c.unbroken.auto.rows

pub returns : goal.returns
returns c = break_end _ _ _ _ _ _ _ _ _ c.loop-wrapping.invariant (sym c.is_some.ensures ∙ c.loop-wrapping-test.false)
