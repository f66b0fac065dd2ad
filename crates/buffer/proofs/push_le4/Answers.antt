use Rattle.std.proofs.Common.{rules}
use Rattle.buffer.specs.Numbers.{le4}
use Rattle.buffer.proofs.push_le4.Goals as goal

pub returns : goal.returns
unfolding le4
returns c = search rules
