use Rattle.std.proofs.lemmas.Bool.{not-false, not-true}
use Rattle.std.proofs.Common.{rules}
use Rattle.screen.proofs.Drawing.{draw_begin, draw_done, head_ready, draw_cut, body_ready, draw_less, draw_broken, draw_turn, next_inside}
use Rattle.screen.proofs.screen.draw.Goals as goal

pub loop-at-init : goal.loop-at-init
loop-at-init c = search draw_begin

pub head_at-head-requires : goal.head_at-head-requires
head_at-head-requires c = search head_ready

pub on_record-requires : goal.on_record-requires
on_record-requires c = record { body_ready = search (body_ready, not-false); whole_value = not-false _ c.if-not-head.false }

pub overflow_add-at : goal.overflow_add-at
overflow_add-at c = let h = next_inside _ _ _ _ _ _ _ c.loop-at.invariant c.loop-at-test.true _ c.head_at-head.ensures (not-false _ c.if-not-head.false) in search (rules, h)

pub loop-at-smaller : goal.loop-at-smaller
loop-at-smaller c = search (draw_less, not-false)

pub loop-at-preserved : goal.loop-at-preserved
loop-at-preserved c = draw_turn _ _ _ _ _ _ _ c.loop-at.invariant c.loop-at-test.true _ c.head_at-head.ensures (not-false _ c.if-not-head.false) _ _ c.in_ok-t.ensures (search rules)

pub returns-then-not-head : goal.returns-then-not-head
returns-then-not-head c = search (draw_cut, not-true)

pub returns-in_err-t : goal.returns-in_err-t
returns-in_err-t c = rw c.from_residual.ensures (draw_broken _ _ _ _ _ _ _ c.loop-at.invariant c.loop-at-test.true _ c.head_at-head.ensures (not-false _ c.if-not-head.false) _ c.in_err-t.ensures)

pub returns : goal.returns
returns c = search draw_done
