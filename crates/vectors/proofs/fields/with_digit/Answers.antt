use Rattle.vectors.proofs.FieldText.{digit_none, digit_fits, digit_past}
use Rattle.vectors.proofs.fields.with_digit.Goals as goal

pub returns-then-d-gt9 : goal.returns-then-d-gt9
returns-then-d-gt9 c = search digit_none

pub returns-then-n-d : goal.returns-then-n-d
returns-then-n-d c = search digit_fits

pub returns : goal.returns
returns c = search digit_past
