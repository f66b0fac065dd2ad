use Rattle.spans.proofs.Sequences.{parse_part}
use Rattle.spans.proofs.sequence.sequence_at.Goals as goal

pub returns : goal.returns
returns c = search parse_part
