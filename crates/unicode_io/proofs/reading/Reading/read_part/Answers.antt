use Rattle.std.proofs.Common.{rules}
use Rattle.unicode_io.specs.Reading.Laws.{left_begins, left_turn, left_ends}
use Rattle.unicode_io.proofs.reading.Reading.read_part.Goals as goal

pub loop-b-init : goal.loop-b-init
loop-b-init c = (search rules, search left_begins)

pub loop-b-preserved : goal.loop-b-preserved
loop-b-preserved c = (search rules, search left_turn)

pub returns : goal.returns
returns c = search left_ends
