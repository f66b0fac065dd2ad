use Rattle.vectors.proofs.FieldText.{lent_all, lent_past}
use Rattle.vectors.proofs.recorded.lent_numbers.Goals as goal

pub returns-then-size-buf : goal.returns-then-size-buf
returns-then-size-buf c = search lent_all

pub returns : goal.returns
returns c = search lent_past
