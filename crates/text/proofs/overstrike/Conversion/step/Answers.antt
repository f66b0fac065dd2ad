use native.Mathlib.Omega.{arith}
use Rattle.text.proofs.OverstrikeSteps.{back_ready, held_part, step_back, step_hold, step_pushed, step_room, step_struck, strike_ready}
use Rattle.text.proofs.overstrike.Conversion.step.Goals as goal

pub on_backspace-requires : goal.on_backspace-requires
on_backspace-requires c = search back_ready

pub returns-then-is_byte : goal.returns-then-is_byte
returns-then-is_byte c = search step_back

pub returns-in-Nothing : goal.returns-in-Nothing
returns-in-Nothing c = search step_hold

pub slice_bounds-text-count : goal.slice_bounds-text-count
slice_bounds-text-count c = omega (arith, (held_part _ _ _ _ _ c.requires c.in-Held.is).ordered)

pub slice_bounds-text-start : goal.slice_bounds-text-start
slice_bounds-text-start c = let h = held_part _ _ _ _ _ c.requires c.in-Held.is in omega (arith, h.ordered, h.within)

pub slice_bounds-text-end : goal.slice_bounds-text-end
slice_bounds-text-end c = omega (arith, (held_part _ _ _ _ _ c.requires c.in-Held.is).within)

pub push_styled-n-requires : goal.push_styled-n-requires
push_styled-n-requires c = search step_room

pub returns-in-Held : goal.returns-in-Held
returns-in-Held c = search step_pushed

pub strike-requires : goal.strike-requires
strike-requires c = search strike_ready

pub returns-in-Struck : goal.returns-in-Struck
returns-in-Struck c = search step_struck
