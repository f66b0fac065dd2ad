use Rattle.vectors.proofs.FieldText.{passing_space, passing_other, passing_ends, passing_past}
use Rattle.vectors.proofs.fields.field_start.Goals as goal
use Rattle.vectors.proofs.fields.field_start.Goals.{then-s-i-eq32, else-s-i-eq32}

pub returns-then-left-eq0 : goal.returns-then-left-eq0
returns-then-left-eq0 c = search passing_ends

pub loop-i-preserved : goal.loop-i-preserved
loop-i-preserved c = elim c.if-s-i-eq32.branch [ then-s-i-eq32 w ↦ search passing_space | else-s-i-eq32 w ↦ search passing_other ]

pub returns : goal.returns
returns c = search passing_past
