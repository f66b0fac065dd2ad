use Rattle.text.proofs.ForwardWalk.{no_cluster}
use Rattle.text.proofs.segmentation.next_boundary.Goals as goal

pub returns : goal.returns
returns c = search no_cluster
