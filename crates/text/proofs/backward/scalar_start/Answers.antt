use Rattle.std.proofs.Common.{rules}
use Rattle.text.proofs.ContinuationBytes.{back_end, back_found, back_on}
use Rattle.text.proofs.backward.scalar_start.Goals as goal

pub loop-i-preserved : goal.loop-i-preserved
loop-i-preserved c = (search rules, search back_on)

pub returns-else-is_tail : goal.returns-else-is_tail
returns-else-is_tail c = search back_found

pub returns : goal.returns
returns c = search back_end
