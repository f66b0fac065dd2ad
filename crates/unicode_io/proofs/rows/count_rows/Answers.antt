use Rattle.unicode_io.specs.Rows.Laws.{counting_begins, counting_turn, counting_less, counting_stops}
use Rattle.unicode_io.proofs.rows.count_rows.Goals as goal

pub loop-row-init : goal.loop-row-init
loop-row-init c = search counting_begins

pub loop-row-smaller : goal.loop-row-smaller
loop-row-smaller c = search counting_less

pub loop-row-preserved : goal.loop-row-preserved
loop-row-preserved c = search counting_turn

pub returns : goal.returns
returns c = search counting_stops
