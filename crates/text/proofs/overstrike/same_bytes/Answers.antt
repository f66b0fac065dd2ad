use native.Mathlib.Omega.{arith}
use mathlib.Core.Path.{refl}
use Rattle.text.proofs.OverstrikeSteps.{same_end, same_long, same_on, same_stop}
use Rattle.text.proofs.overstrike.same_bytes.Goals as goal

pub returns-then-x-y : goal.returns-then-x-y
returns-then-x-y c = same_long _ _ c.if-x-y.true

pub loop-i-init : goal.loop-i-init
loop-i-init c = (omega arith, c.if-x-y.false, refl)

pub bounds-y-i : goal.bounds-y-i
bounds-y-i c = omega (arith, c.before.before.before.loop-i.invariant.1)

pub returns-then-x-i : goal.returns-then-x-i
returns-then-x-i c = search same_stop

pub loop-i-preserved : goal.loop-i-preserved
loop-i-preserved c = (omega arith, c.before.before.before.before.loop-i.invariant.1, same_on c.before.before.before.before.before.before.args.x.now c.before.before.before.before.before.before.args.y.now c.before.before.before.before.loop-i.i c.before.before.before.before.loop-i.invariant.1 c.before.before.before.loop-i-test.true c.before.before.before.before.loop-i.invariant.2 c.if-x-i.false)

pub returns : goal.returns
returns c = search same_end
