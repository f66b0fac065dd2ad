use Rattle.text.proofs.ForwardWalk.{plain_next}
use Rattle.text.proofs.segmentation.next_cluster.Goals as goal

pub returns-then-is_printable : goal.returns-then-is_printable
returns-then-is_printable c = search plain_next fits 20000
