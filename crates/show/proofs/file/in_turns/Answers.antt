use Rattle.show.proofs.Parts.{showing_begins, showing_turn, showing_stops, showing_ends}
use Rattle.show.proofs.file.in_turns.Goals as goal

pub loop-turns-init : goal.loop-turns-init
loop-turns-init c = search showing_begins

pub loop-turns-preserved : goal.loop-turns-preserved
loop-turns-preserved c = search showing_turn

pub returns-else-state-p : goal.returns-else-state-p
returns-else-state-p c = search showing_stops

pub returns : goal.returns
returns c = search showing_ends
