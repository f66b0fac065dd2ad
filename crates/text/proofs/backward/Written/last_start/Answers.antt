use Rattle.std.proofs.Common.{rules}
use native.Mathlib.Omega.{arith}
use Rattle.text.proofs.BackwardWalk.{last_begin, last_empty, last_end, last_inside, last_on, last_stop}
use Rattle.text.proofs.ContinuationBytes.{back_lt}
use Rattle.text.proofs.backward.Written.last_start.Goals as goal

pub returns-then-self-eq0 : goal.returns-then-self-eq0
returns-then-self-eq0 c = last_empty _ c.args.self.text.now c.if-self-eq0.true

pub loop-q-init : goal.loop-q-init
loop-q-init c = search last_begin

pub joins_at-requires : goal.joins_at-requires
joins_at-requires c = (search last_inside, c.loop-q.invariant.start, search rules)

pub scalar_start-q-requires-then-joins_at : goal.scalar_start-q-requires-then-joins_at
scalar_start-q-requires-then-joins_at c = omega (arith, last_inside _ c.args.self.text.now c.loop-q.q _ c.loop-q.invariant)

pub loop-q-smaller : goal.loop-q-smaller
loop-q-smaller c = omega (arith, back_lt c.args.self.text.now c.loop-q.q c.loop-q-test.true, c.scalar_start-q-then-joins_at.ensures)

pub loop-q-preserved : goal.loop-q-preserved
loop-q-preserved c = search last_on

pub returns-else-joins_at : goal.returns-else-joins_at
returns-else-joins_at c = search last_stop

pub returns : goal.returns
returns c = search last_end
