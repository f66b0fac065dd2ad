use native.Mathlib.Omega.{arith}
use Rattle.text.proofs.OverstrikeSteps.{strike_other, strike_same, strike_same_under, strike_under, strike_upper}
use Rattle.text.proofs.overstrike.Conversion.strike.Goals as goal

pub slice_bounds-below-count : goal.slice_bounds-below-count
slice_bounds-below-count c = omega (arith, c.requires.under.ordered)

pub slice_bounds-below-start : goal.slice_bounds-below-start
slice_bounds-below-start c = omega (arith, c.requires.under.ordered, c.requires.under.within)

pub slice_bounds-below-end : goal.slice_bounds-below-end
slice_bounds-below-end c = omega (arith, c.requires.under.within)

pub slice_bounds-above-count : goal.slice_bounds-above-count
slice_bounds-above-count c = omega (arith, c.requires.upper.ordered)

pub returns-then-is_upper : goal.returns-then-is_upper
returns-then-is_upper c = search strike_same_under

pub returns-then-same_bytes : goal.returns-then-same_bytes
returns-then-same_bytes c = search strike_same

pub returns-then-is_upper-2 : goal.returns-then-is_upper-2
returns-then-is_upper-2 c = search strike_upper

pub returns-then-is_under : goal.returns-then-is_under
returns-then-is_under c = search strike_under

pub returns : goal.returns
returns c = search strike_other
