use native.Mathlib.Omega.{arith}
use Rattle.drawing.proofs.Clipping.{end_begin, end_bad, end_there, end_turn, end_past}
use Rattle.drawing.proofs.clip.clip_end.Goals as goal

pub loop-p-init : goal.loop-p-init
loop-p-init c = search end_begin

pub returns-then-next-p : goal.returns-then-next-p
returns-then-next-p c = search end_bad

pub returns-then-next-limit : goal.returns-then-next-limit
returns-then-next-limit c = search end_there

pub loop-p-smaller : goal.loop-p-smaller
loop-p-smaller c = omega arith

pub loop-p-preserved : goal.loop-p-preserved
loop-p-preserved c = search end_turn

pub returns : goal.returns
returns c = search end_past
