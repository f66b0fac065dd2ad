use Rattle.std.proofs.Common.{rules}
use Rattle.vectors.proofs.FieldText.{hex_turn, hex_end, filled}
use Rattle.vectors.proofs.fields.bytes.Goals as goal

pub loop-i-preserved : goal.loop-i-preserved
loop-i-preserved c = (search hex_turn, search rules)

pub returns : goal.returns
returns c = search (filled, hex_end)
