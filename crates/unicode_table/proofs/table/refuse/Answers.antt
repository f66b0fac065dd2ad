use Rattle.unicode_table.specs.Printed.Laws.{refusal_handed}
use Rattle.unicode_table.proofs.table.refuse.Goals as goal

pub returns : goal.returns
returns c = rw (← c.number.ensures) (search refusal_handed)
