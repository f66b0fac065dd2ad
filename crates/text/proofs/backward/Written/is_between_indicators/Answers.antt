use Rattle.text.proofs.Erasing.{between_low, between_none, between_tells}
use Rattle.text.proofs.backward.Written.is_between_indicators.Goals as goal

pub returns-then-q-lt4 : goal.returns-then-q-lt4
returns-then-q-lt4 c = search between_low

pub returns-then-is_indicator : goal.returns-then-is_indicator
returns-then-is_indicator c = search between_tells

pub returns : goal.returns
returns c = search between_none
