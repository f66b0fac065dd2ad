use Rattle.buffer.specs.Conditions.{branch}
use Rattle.text.proofs.utf8.two_bytes.Goals as goal

pub returns-then-a-ge194 : goal.returns-then-a-ge194
returns-then-a-ge194 c = search branch depth 10 fits 20000

pub returns : goal.returns
returns c = search branch depth 10 fits 20000
