use native.Mathlib.Omega.{arith}
use Rattle.drawing.proofs.Clipping.{start_begin, start_bad, start_found, found_there, start_torn, start_turn, start_past}
use Rattle.drawing.proofs.clip.clip_start.Goals as goal

pub loop-p-init : goal.loop-p-init
loop-p-init c = search start_begin

pub returns-then-next-p : goal.returns-then-next-p
returns-then-next-p c = search start_bad

pub clip_from-requires : goal.clip_from-requires
clip_from-requires c = search found_there

pub returns-then-next-offset : goal.returns-then-next-offset
returns-then-next-offset c = search start_found

pub returns-then-next-limit : goal.returns-then-next-limit
returns-then-next-limit c = search start_torn

pub loop-p-smaller : goal.loop-p-smaller
loop-p-smaller c = omega arith

pub loop-p-preserved : goal.loop-p-preserved
loop-p-preserved c = search start_turn

pub returns : goal.returns
returns c = search start_past
