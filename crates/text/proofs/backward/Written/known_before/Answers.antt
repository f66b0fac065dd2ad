use Rattle.buffer.specs.Conditions.{branch}
use Rattle.text.proofs.backward.Written.known_before.Goals as goal

pub returns-then-needs_context : goal.returns-then-needs_context
returns-then-needs_context c = search branch depth 10 fits 20000

pub returns-then-q-self : goal.returns-then-q-self
returns-then-q-self c = search branch depth 10 fits 20000

pub returns-then-q-self-le128 : goal.returns-then-q-self-le128
returns-then-q-self-le128 c = search branch depth 10 fits 20000

pub returns-then-is_ascii : goal.returns-then-is_ascii
returns-then-is_ascii c = search branch depth 10 fits 20000

pub returns-then-needs_context-2 : goal.returns-then-needs_context-2
returns-then-needs_context-2 c = search branch depth 10 fits 20000

pub returns : goal.returns
returns c = search branch depth 10 fits 20000
