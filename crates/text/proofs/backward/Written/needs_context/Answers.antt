use Rattle.buffer.specs.Conditions.{branch}
use Rattle.text.proofs.backward.Written.needs_context.Goals as goal

pub returns-then-is_between_indicators : goal.returns-then-is_between_indicators
returns-then-is_between_indicators c = search branch

pub returns : goal.returns
returns c = search branch
