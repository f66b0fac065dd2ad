use Rattle.std.proofs.Common.{rules}
use Rattle.vectors.proofs.FieldText.{find_turn, find_here, find_past}
use Rattle.vectors.proofs.fields.find.Goals as goal

pub returns-then-s-i : goal.returns-then-s-i
returns-then-s-i c = search (rules, find_here)

pub loop-i-preserved : goal.loop-i-preserved
loop-i-preserved c = search (rules, find_turn)

pub returns : goal.returns
returns c = search (rules, find_past)
