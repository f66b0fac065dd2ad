use Rattle.std.proofs.Common.{arith}
use Rattle.unicode_io.specs.Output.Laws.{decimal_pushed}
use Rattle.unicode_io.proofs.output.push_decimal.Goals as goal

pub returns : goal.returns
returns c = decimal_pushed c.args.n c.decimal-k.result c.decimal-k.new.out _ _ (omega arith) c.decimal-k.ensures.len c.decimal-k.ensures.digits c.push_elements.ensures
