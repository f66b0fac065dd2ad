use native.Mathlib.Omega.{arith}
use Rattle.text.proofs.AsciiRuns.{run_begins, run_low_again, run_low_falls, run_stops, run_place, run_falls, run_again, run_ends}
use Rattle.text.proofs.utf8.run_end.Goals as goal

pub loop-p-init : goal.loop-p-init
loop-p-init c = search run_begins

pub loop-p-smaller-then-s-p-lt128 : goal.loop-p-smaller-then-s-p-lt128
loop-p-smaller-then-s-p-lt128 c = search run_low_falls

pub loop-p-preserved-then-s-p-lt128 : goal.loop-p-preserved-then-s-p-lt128
loop-p-preserved-then-s-p-lt128 c = search run_low_again

pub returns-in_default : goal.returns-in_default
returns-in_default c = search run_stops

pub overflow_add-p : goal.overflow_add-p
overflow_add-p c = omega (arith, run_place _ _ _ c.loop-p.invariant c.loop-p-test.true _ c.decode_long.ensures _ c.in-Some.is)

pub loop-p-smaller : goal.loop-p-smaller
loop-p-smaller c = search run_falls

pub loop-p-preserved : goal.loop-p-preserved
loop-p-preserved c = search run_again

pub returns : goal.returns
returns c = search run_ends
