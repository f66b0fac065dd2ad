use Rattle.std.proofs.Common.{refl}
use Rattle.spans.specs.Sequence.Contracts.{sequence_of}
use Rattle.spans.proofs.Sequences.{telling, csi_of, csi_is, erase_as}
use Rattle.buffer.specs.Conditions.{branch}
use Rattle.spans.proofs.sequence.csi.Goals as goal

pub returns-in-75 : goal.returns-in-75
unfolding csi_of
returns-in-75 c = csi_is _ _ _ _ c.scan_parameters-scan.ensures c.byte_at-last.ensures (rw c.in-75.is (erase_as _ _ _ _ c.erase.ensures c.byte_at.ensures))

pub returns-then-scan : goal.returns-then-scan
unfolding csi_of
returns-then-scan c = csi_is _ _ _ _ c.scan_parameters-scan.ensures c.byte_at-last.ensures (rw (c.in-109.is, c.if-scan.true) c.style.ensures)

pub returns-else-scan : goal.returns-else-scan
unfolding csi_of sequence_of
returns-else-scan c = csi_is _ _ _ _ c.scan_parameters-scan.ensures c.byte_at-last.ensures (rw (c.in-109.is, c.if-scan.false) refl)

pub returns-then-is_final : goal.returns-then-is_final
unfolding csi_of sequence_of
returns-then-is_final c = search (csi_is, telling, branch) depth 12 fits 20000

pub returns-else-is_final : goal.returns-else-is_final
unfolding csi_of sequence_of
returns-else-is_final c = search (csi_is, telling, branch) depth 12 fits 20000
