use Rattle.spans.specs.Sequence.Contracts.{sequence_of}
use Rattle.spans.proofs.Sequences.{telling, osc_of, osc_is}
use Rattle.buffer.specs.Conditions.{branch}
use Rattle.spans.proofs.sequence.osc.Goals as goal

pub returns-in-56-eq59-eq59 : goal.returns-in-56-eq59-eq59
unfolding osc_of
returns-in-56-eq59-eq59 c = search (osc_is, telling, branch) depth 12 fits 20000

pub returns-in_default : goal.returns-in_default
unfolding osc_of sequence_of
returns-in_default c = search (osc_is, telling, branch) depth 12 fits 20000

pub returns-in_default-2 : goal.returns-in_default-2
unfolding osc_of sequence_of
returns-in_default-2 c = search (osc_is, telling, branch) depth 12 fits 20000

pub returns-in_default-3 : goal.returns-in_default-3
unfolding osc_of sequence_of
returns-in_default-3 c = search (osc_is, telling, branch) depth 12 fits 20000
