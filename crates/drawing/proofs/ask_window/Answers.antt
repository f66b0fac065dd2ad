use Rattle.drawing.proofs.DrawCalls.{window_far, window_none, window_fine}
use Rattle.drawing.proofs.ask_window.Goals as goal

pub returns-then-start-end : goal.returns-then-start-end
returns-then-start-end c = search window_far

pub returns-then-start-end-2 : goal.returns-then-start-end-2
returns-then-start-end-2 c = search window_none

pub returns : goal.returns
returns c = search window_fine
