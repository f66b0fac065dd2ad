use Rattle.text.proofs.ForwardWalk.{none_there, one_scalar, walked}
use Rattle.text.proofs.segmentation.walked_end.Goals as goal

pub returns-in_default : goal.returns-in_default
returns-in_default c = search none_there

pub returns-then-never_joins_before : goal.returns-then-never_joins_before
returns-then-never_joins_before c = search one_scalar

pub returns : goal.returns
returns c = search walked
