use native.Mathlib.Omega.{arith}
use Rattle.text.proofs.OverstrikeSteps.{finish_room, finished_held, finished_none, held_room, last_order_room, last_part}
use Rattle.text.proofs.overstrike.Conversion.finish.Goals as goal

pub slice_bounds-text-count : goal.slice_bounds-text-count
slice_bounds-text-count c = omega (arith, (last_part _ _ _ c.requires _ c.in-Held.is).ordered)

pub slice_bounds-text-start : goal.slice_bounds-text-start
slice_bounds-text-start c = let h = last_part _ _ _ c.requires _ c.in-Held.is in omega (arith, h.ordered, h.within)

pub slice_bounds-text-end : goal.slice_bounds-text-end
slice_bounds-text-end c = omega (arith, (last_part _ _ _ c.requires _ c.in-Held.is).within)

pub push_styled-n-requires : goal.push_styled-n-requires
push_styled-n-requires c = search held_room

pub add_control_sequence-requires : goal.add_control_sequence-requires
add_control_sequence-requires c = search last_order_room

pub returns-in-Held : goal.returns-in-Held
returns-in-Held c = search finished_held

pub add_control_sequence-requires-2 : goal.add_control_sequence-requires-2
add_control_sequence-requires-2 c = search finish_room

pub returns : goal.returns
returns c = finished_none _ _ _ c.requires _ _ c.in_default.not-Held c.add_control_sequence-2.ensures
