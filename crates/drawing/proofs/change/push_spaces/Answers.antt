use Rattle.drawing.proofs.Changes.{spaces_turn, spaces_end}
use Rattle.std.proofs.Common.{rules}
use Rattle.drawing.proofs.change.push_spaces.Goals as goal

pub loop-column-preserved : goal.loop-column-preserved
loop-column-preserved c = (search spaces_turn, search rules)

pub returns : goal.returns
returns c = search spaces_end
