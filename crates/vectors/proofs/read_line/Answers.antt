use Rattle.vectors.proofs.FieldText.{counted_in}
use Rattle.vectors.proofs.read_line.Goals as goal

pub returns-then-read_full-eq0 : goal.returns-then-read_full-eq0
returns-then-read_full-eq0 c = search counted_in

pub returns-then-byte-eq10 : goal.returns-then-byte-eq10
returns-then-byte-eq10 c = search counted_in

pub returns : goal.returns
returns c = search counted_in
