use Rattle.std.proofs.Common.{rules}
use Rattle.vectors.proofs.InputParts.{part_turn, part_end}
use Rattle.vectors.proofs.FieldText.{filled}
use Rattle.vectors.proofs.program.fill.Goals as goal

pub loop-i-preserved : goal.loop-i-preserved
loop-i-preserved c = (search part_turn, search rules)

pub returns : goal.returns
returns c = search (filled, part_end)
