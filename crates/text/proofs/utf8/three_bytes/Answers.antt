use Rattle.buffer.specs.Conditions.{branch}
use Rattle.text.proofs.utf8.three_bytes.Goals as goal

pub returns-then-x : goal.returns-then-x
returns-then-x c = search branch depth 10 fits 20000

pub returns : goal.returns
returns c = search branch depth 10 fits 20000
