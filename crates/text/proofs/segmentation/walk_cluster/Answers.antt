use native.Mathlib.Omega.{arith}
use Rattle.text.proofs.ForwardWalk.{start_class, start_none, start_walk, walk_boundary, walk_class, walk_columns, walk_end, walk_none, walk_room, walk_turn}
use Rattle.text.proofs.segmentation.walk_cluster.Goals as goal

pub returns-in_default : goal.returns-in_default
returns-in_default c = search start_none

pub class-requires : goal.class-requires
class-requires c = search start_class

pub loop-p-init : goal.loop-p-init
loop-p-init c = search start_walk

pub returns-in_default-next : goal.returns-in_default-next
returns-in_default-next c = search walk_none

pub class-c-requires : goal.class-c-requires
class-c-requires c = search walk_class

pub returns-then-not-joins : goal.returns-then-not-joins
returns-then-not-joins c = walk_boundary c.args.profile c.args.s.now c.args.at c.loop-p.p c.loop-p.w _ c.loop-p-test.true c.loop-p.invariant c.scalar_at-next.result c.scalar_at-next.ensures c.in-Some-next.v c.in-Some-next.is _ c.class-c.ensures _ c.joins.ensures c.if-not-joins.true

pub overflow_add-w : goal.overflow_add-w
overflow_add-w c = omega (arith, walk_columns c.args.profile c.args.s.now c.args.at c.loop-p.p c.loop-p.w _ c.loop-p-test.true c.loop-p.invariant c.scalar_at-next.result c.scalar_at-next.ensures c.in-Some-next.v c.in-Some-next.is _ c.width-w-in-loop-p.ensures, c.loop-p.invariant.bound, c.loop-p.invariant.inside)

pub loop-p-smaller : goal.loop-p-smaller
loop-p-smaller c = omega (arith, walk_room c.args.profile c.args.s.now c.args.at c.loop-p.p c.loop-p.w _ c.loop-p-test.true c.loop-p.invariant c.scalar_at-next.result c.scalar_at-next.ensures c.in-Some-next.v c.in-Some-next.is _ c.len-p.ensures)

pub loop-p-preserved : goal.loop-p-preserved
loop-p-preserved c = search walk_turn

pub returns : goal.returns
returns c = search walk_end
