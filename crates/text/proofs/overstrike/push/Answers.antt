use native.Mathlib.Omega.{arith}
use lib.ListN.{length-set}
use Rattle.text.proofs.Pushing.{push_copied, push_four, push_one, push_three, push_two, push_zero}
use Rattle.text.proofs.overstrike.push.Goals as goal

pub returns-then-n-gt4 : goal.returns-then-n-gt4
returns-then-n-gt4 c = search push_copied

pub returns-then-n-eq0 : goal.returns-then-n-eq0
returns-then-n-eq0 c = search push_zero

pub returns-then-n-eq1 : goal.returns-then-n-eq1
returns-then-n-eq1 c = search push_one

pub bounds-out-len-2 : goal.bounds-out-len-2
bounds-out-len-2 c = rw length-set (omega arith)

pub returns-then-n-eq2 : goal.returns-then-n-eq2
returns-then-n-eq2 c = search push_two

pub bounds-out-len-3 : goal.bounds-out-len-3
bounds-out-len-3 c = rw (length-set, length-set) (omega arith)

pub returns-then-n-eq3 : goal.returns-then-n-eq3
returns-then-n-eq3 c = search push_three

pub bounds-out-len-4 : goal.bounds-out-len-4
bounds-out-len-4 c = rw (length-set, length-set, length-set) (omega arith)

pub returns : goal.returns
returns c = search push_four
