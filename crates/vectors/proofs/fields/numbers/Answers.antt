use Rattle.std.proofs.Common.{rules}
use Rattle.vectors.proofs.FieldText.{list_none, list_begins, list_comma, list_digit, list_end, filled}
use Rattle.vectors.proofs.fields.numbers.Goals as goal

pub returns-then-byte_at-eq45 : goal.returns-then-byte_at-eq45
returns-then-byte_at-eq45 c = search list_none

pub loop-b-init : goal.loop-b-init
loop-b-init c = (search list_begins, search rules)

pub loop-b-preserved-then-b-eq44 : goal.loop-b-preserved-then-b-eq44
loop-b-preserved-then-b-eq44 c = (search list_comma, search rules)

pub loop-b-preserved : goal.loop-b-preserved
loop-b-preserved c = (search list_digit, search rules)

pub returns : goal.returns
returns c = search (filled, list_end)
