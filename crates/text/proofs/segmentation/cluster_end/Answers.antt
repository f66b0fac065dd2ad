use Rattle.text.proofs.ForwardWalk.{one_byte_law}
use Rattle.text.proofs.segmentation.cluster_end.Goals as goal

pub returns-then-is_one_byte_cluster : goal.returns-then-is_one_byte_cluster
returns-then-is_one_byte_cluster c = search one_byte_law
