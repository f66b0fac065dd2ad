use Rattle.show_io.proofs.Bodies.{matching_begins, matching_first, matching_second, matching_turn, matching_ends, matching_other}
use Rattle.show_io.proofs.ansi.are_same.Goals as goal

pub loop-i-init : goal.loop-i-init
loop-i-init c = search matching_begins

pub bounds-a-i : goal.bounds-a-i
bounds-a-i c = search matching_first

pub bounds-b-i : goal.bounds-b-i
bounds-b-i c = search matching_second

pub loop-i-preserved : goal.loop-i-preserved
loop-i-preserved c = search matching_turn

pub returns-then-a-b : goal.returns-then-a-b
returns-then-a-b c = search matching_ends

pub returns : goal.returns
returns c = search matching_other
