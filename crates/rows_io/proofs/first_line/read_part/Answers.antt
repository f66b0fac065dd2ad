use Rattle.rows_io.proofs.Reading.{reading_begins, reading_more, reading_ended, reading_past}
use Rattle.rows_io.proofs.first_line.read_part.Goals as goal

pub loop-i-init : goal.loop-i-init
loop-i-init c = search reading_begins

pub returns-then-f : goal.returns-then-f
returns-then-f c = search reading_ended

pub loop-i-preserved : goal.loop-i-preserved
loop-i-preserved c = search reading_more

pub returns : goal.returns
returns c = search reading_past
