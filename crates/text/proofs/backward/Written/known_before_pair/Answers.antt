use Rattle.buffer.specs.Conditions.{branch}
use Rattle.text.proofs.backward.Written.known_before_pair.Goals as goal

pub returns-then-q-lt4 : goal.returns-then-q-lt4
returns-then-q-lt4 c = search branch depth 10 fits 20000

pub returns-then-is_indicator : goal.returns-then-is_indicator
returns-then-is_indicator c = search branch depth 10 fits 20000

pub returns : goal.returns
returns c = search branch depth 10 fits 20000
