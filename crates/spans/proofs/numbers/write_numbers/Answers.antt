use Rattle.spans.specs.Numbers.Laws.{push_turn, numbers_end}
use Rattle.spans.proofs.numbers.write_numbers.Goals as goal

pub loop-span-preserved : goal.loop-span-preserved
loop-span-preserved c = push_turn c.args.spans.now _ _ _ _ _ c.loop-span-test.true c.loop-span.invariant c.push_elements-at.ensures

pub returns : goal.returns
returns c = numbers_end _ _ c.args.spans.now _ _ c.requires c.loop-span.auto.numbers c.loop-span-test.false c.loop-span.invariant c.clear.ensures
