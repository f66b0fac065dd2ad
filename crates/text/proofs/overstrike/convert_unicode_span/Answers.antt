use Rattle.std.proofs.Common.{rules}
use Rattle.text.proofs.Converting.{running_begin, running_damaged, running_end, running_finish, running_less, running_ready, running_turn}
use Rattle.text.proofs.overstrike.convert_unicode_span.Goals as goal

pub loop-p-init : goal.loop-p-init
loop-p-init c = (search running_begin, search rules)

pub finish-n-requires : goal.finish-n-requires
finish-n-requires c = search running_finish

pub returns-then-e-p : goal.returns-then-e-p
returns-then-e-p c = search running_damaged

pub step-st-requires : goal.step-st-requires
step-st-requires c = search running_ready

pub loop-p-smaller : goal.loop-p-smaller
loop-p-smaller c = search running_less

pub loop-p-preserved : goal.loop-p-preserved
loop-p-preserved c = (search running_turn, search rules)

pub finish-n-requires-2 : goal.finish-n-requires-2
finish-n-requires-2 c = search running_finish

pub returns : goal.returns
returns c = search running_end
