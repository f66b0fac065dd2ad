use Rattle.vectors.proofs.FieldText.{number_turn, number_end}
use Rattle.vectors.proofs.fields.number.Goals as goal

pub loop-b-preserved : goal.loop-b-preserved
loop-b-preserved c = search number_turn

pub returns : goal.returns
returns c = search number_end
