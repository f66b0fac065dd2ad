use Rattle.std.proofs.Common.{rules}
use Rattle.rows_program.proofs.Parts.{asking_begins, asking_turn, asking_stops, asking_ends}
use Rattle.rows_program.proofs.input.all.Goals as goal

pub loop-turns-init : goal.loop-turns-init
loop-turns-init g c = (search rules, search asking_begins)

pub returns-then-state-input : goal.returns-then-state-input
returns-then-state-input g c = search asking_stops

pub loop-turns-preserved : goal.loop-turns-preserved
loop-turns-preserved g c = (search rules, search asking_turn)

pub returns : goal.returns
returns g c = search asking_ends
