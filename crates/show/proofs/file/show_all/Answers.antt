use Rattle.show.proofs.Parts.{asking_begins, asking_turn, asking_stops, asking_ends}
use Rattle.show.proofs.file.show_all.Goals as goal

pub loop-turns-init : goal.loop-turns-init
loop-turns-init g c = search asking_begins

pub loop-turns-preserved : goal.loop-turns-preserved
loop-turns-preserved g c = search asking_turn

pub returns-else-state : goal.returns-else-state
returns-else-state g c = search asking_stops

pub returns : goal.returns
returns g c = search asking_ends
