use Rattle.std.proofs.Common.{rules}
use Rattle.text.proofs.BackwardWalk.{odd_begin}
use Rattle.text.proofs.RegionalIndicators.{odd_even, odd_few, odd_stops, odd_turns}
use Rattle.text.proofs.backward.Written.odd_to.Goals as goal

pub loop-i-init : goal.loop-i-init
loop-i-init c = (search rules, search odd_begin)

pub returns-then-i-self : goal.returns-then-i-self
returns-then-i-self c = search odd_even

pub loop-i-preserved : goal.loop-i-preserved
loop-i-preserved c = (search rules, odd_turns _ c.args.self.text.now c.loop-i.i c.loop-i.odd _ c.loop-i.invariant.1 _ c.is_indicator.ensures c.loop-i-test.true c.if-is_indicator.true)

pub returns-else-is_indicator : goal.returns-else-is_indicator
returns-else-is_indicator c = search odd_stops

pub returns : goal.returns
returns c = search odd_few
