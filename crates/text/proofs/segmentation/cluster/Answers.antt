use Rattle.text.proofs.ForwardWalk.{plain_measured}
use Rattle.text.proofs.segmentation.cluster.Goals as goal

pub returns-then-is_printable-2 : goal.returns-then-is_printable-2
returns-then-is_printable-2 c = search plain_measured
