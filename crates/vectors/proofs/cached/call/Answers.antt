use Rattle.vectors.proofs.KeptWraps.{call_rows, call_height, call_none}
use Rattle.vectors.proofs.cached.call.Goals as goal

pub returns-then-same : goal.returns-then-same
returns-then-same c = search call_rows

pub returns-then-same-2 : goal.returns-then-same-2
returns-then-same-2 c = search call_height

pub returns-else-same-2 : goal.returns-else-same-2
returns-else-same-2 c = search call_none
