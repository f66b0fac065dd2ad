use Rattle.text.proofs.Erasing.{pair_elsewhere, pair_none, pair_short, pair_tells}
use Rattle.text.proofs.backward.Written.ends_in_pair.Goals as goal

pub returns-then-n-lt8 : goal.returns-then-n-lt8
returns-then-n-lt8 c = search pair_short

pub returns-then-is_indicator : goal.returns-then-is_indicator
returns-then-is_indicator c = search pair_tells

pub returns-then-self-n : goal.returns-then-self-n
returns-then-self-n c = search pair_none

pub returns : goal.returns
returns c = search pair_elsewhere
