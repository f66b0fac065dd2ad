use Prim.Native.Nat.{◌≤◌}
use native.Mathlib.Omega.{arith}
use mathlib.Core.List.{[]}
use lib.ListN.{length}
use Rattle.text.proofs.Pushing.{changed, changes, order_pushed, order_room, push_none}
use Rattle.text.proofs.overstrike.add_control_sequence.Goals as goal

pub push-requires : goal.push-requires
unfolding changed changes
push-requires c = order_room c.args.prev c.args.style _ _ _ (rw (c.if-bold_off.true, c.if-underline_off.true)) c.requires

pub returns-then-underline_off : goal.returns-then-underline_off
unfolding changed changes
returns-then-underline_off c = order_pushed c.args.prev c.args.style _ _ _ _ _ (rw (c.if-bold_off.true, c.if-underline_off.true)) c.push.ensures

pub push-requires-then-underline_on : goal.push-requires-then-underline_on
unfolding changed changes
push-requires-then-underline_on c = order_room c.args.prev c.args.style _ _ _ (rw (c.if-bold_off.true, c.if-underline_off.false, c.if-underline_on.true)) c.requires

pub returns-then-underline_on : goal.returns-then-underline_on
unfolding changed changes
returns-then-underline_on c = order_pushed c.args.prev c.args.style _ _ _ _ _ (rw (c.if-bold_off.true, c.if-underline_off.false, c.if-underline_on.true)) c.push-then-underline_on.ensures

pub push-requires-then-bold_off : goal.push-requires-then-bold_off
unfolding changed changes
push-requires-then-bold_off c = order_room c.args.prev c.args.style _ _ _ (rw (c.if-bold_off.true, c.if-underline_off.false, c.if-underline_on.false)) c.requires

pub returns-then-bold_off : goal.returns-then-bold_off
unfolding changed changes
returns-then-bold_off c = order_pushed c.args.prev c.args.style _ _ _ _ _ (rw (c.if-bold_off.true, c.if-underline_off.false, c.if-underline_on.false)) c.push-then-bold_off.ensures

pub push-requires-then-underline_off-2 : goal.push-requires-then-underline_off-2
unfolding changed changes
push-requires-then-underline_off-2 c = order_room c.args.prev c.args.style _ _ _ (rw (c.if-bold_off.false, c.if-bold_on.true, c.if-underline_off-2.true)) c.requires

pub returns-then-underline_off-2 : goal.returns-then-underline_off-2
unfolding changed changes
returns-then-underline_off-2 c = order_pushed c.args.prev c.args.style _ _ _ _ _ (rw (c.if-bold_off.false, c.if-bold_on.true, c.if-underline_off-2.true)) c.push-then-underline_off-2.ensures

pub push-requires-then-underline_on-2 : goal.push-requires-then-underline_on-2
unfolding changed changes
push-requires-then-underline_on-2 c = order_room c.args.prev c.args.style _ _ _ (rw (c.if-bold_off.false, c.if-bold_on.true, c.if-underline_off-2.false, c.if-underline_on-2.true)) c.requires

pub returns-then-underline_on-2 : goal.returns-then-underline_on-2
unfolding changed changes
returns-then-underline_on-2 c = order_pushed c.args.prev c.args.style _ _ _ _ _ (rw (c.if-bold_off.false, c.if-bold_on.true, c.if-underline_off-2.false, c.if-underline_on-2.true)) c.push-then-underline_on-2.ensures

pub push-requires-then-bold_on : goal.push-requires-then-bold_on
unfolding changed changes
push-requires-then-bold_on c = order_room c.args.prev c.args.style _ _ _ (rw (c.if-bold_off.false, c.if-bold_on.true, c.if-underline_off-2.false, c.if-underline_on-2.false)) c.requires

pub returns-then-bold_on : goal.returns-then-bold_on
unfolding changed changes
returns-then-bold_on c = order_pushed c.args.prev c.args.style _ _ _ _ _ (rw (c.if-bold_off.false, c.if-bold_on.true, c.if-underline_off-2.false, c.if-underline_on-2.false)) c.push-then-bold_on.ensures

pub push-requires-then-underline_off-3 : goal.push-requires-then-underline_off-3
unfolding changed changes
push-requires-then-underline_off-3 c = order_room c.args.prev c.args.style _ _ _ (rw (c.if-bold_off.false, c.if-bold_on.false, c.if-underline_off-3.true)) c.requires

pub returns-then-underline_off-3 : goal.returns-then-underline_off-3
unfolding changed changes
returns-then-underline_off-3 c = order_pushed c.args.prev c.args.style _ _ _ _ _ (rw (c.if-bold_off.false, c.if-bold_on.false, c.if-underline_off-3.true)) c.push-then-underline_off-3.ensures

pub push-requires-then-underline_on-3 : goal.push-requires-then-underline_on-3
unfolding changed changes
push-requires-then-underline_on-3 c = order_room c.args.prev c.args.style _ _ _ (rw (c.if-bold_off.false, c.if-bold_on.false, c.if-underline_off-3.false, c.if-underline_on-3.true)) c.requires

pub returns-then-underline_on-3 : goal.returns-then-underline_on-3
unfolding changed changes
returns-then-underline_on-3 c = order_pushed c.args.prev c.args.style _ _ _ _ _ (rw (c.if-bold_off.false, c.if-bold_on.false, c.if-underline_off-3.false, c.if-underline_on-3.true)) c.push-then-underline_on-3.ensures

pub returns : goal.returns
unfolding changed changes
returns c = let h : c.args.len ≤ length c.args.out.now = omega (arith, c.requires) in order_pushed c.args.prev c.args.style [] _ _ _ _ (rw (c.if-bold_off.false, c.if-bold_on.false, c.if-underline_off-3.false, c.if-underline_on-3.false)) (push_none _ _ h)
