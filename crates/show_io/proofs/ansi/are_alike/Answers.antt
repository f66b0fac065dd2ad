use Rattle.show_io.proofs.Bodies.{comparing_begins, comparing_turn, comparing_differs, comparing_ends}
use Rattle.show_io.proofs.ansi.are_alike.Goals as goal

pub loop-i-init : goal.loop-i-init
loop-i-init c = search comparing_begins

pub loop-i-preserved : goal.loop-i-preserved
loop-i-preserved c = search comparing_turn

pub returns-then-byte_at : goal.returns-then-byte_at
returns-then-byte_at c = search comparing_differs

pub returns : goal.returns
returns c = search comparing_ends
