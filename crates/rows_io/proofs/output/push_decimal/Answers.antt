use Rattle.rows_io.proofs.Lines.{decimal_pushed}
use Rattle.std.proofs.Common.{arith}
use Rattle.rows_io.proofs.output.push_decimal.Goals as goal

pub returns : goal.returns
returns c = decimal_pushed c.args.n c.decimal-k.result _ _ _ (omega arith) c.decimal-k.ensures.len c.decimal-k.ensures.digits c.push_elements.ensures
