use Rattle.buffer.specs.Conditions.{branch}
use Rattle.vectors.proofs.FieldText.{digit_low, letter_low}
use Rattle.vectors.specs.Fields.{digit_of}
use Rattle.vectors.proofs.fields.digit.Goals as goal

pub overflow_sub-result : goal.overflow_sub-result
overflow_sub-result c = search digit_low

pub returns-then-b : goal.returns-then-b
unfolding digit_of
returns-then-b c = search branch depth 10

pub overflow_sub-result-then-b-2 : goal.overflow_sub-result-then-b-2
overflow_sub-result-then-b-2 c = search letter_low

pub returns-then-b-2 : goal.returns-then-b-2
unfolding digit_of
returns-then-b-2 c = search branch depth 10

pub returns : goal.returns
unfolding digit_of
returns c = search branch depth 10
