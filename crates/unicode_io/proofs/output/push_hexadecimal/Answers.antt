use Rattle.std.proofs.Common.{arith}
use Rattle.unicode_io.specs.Output.Laws.{hexadecimal_pushed}
use Rattle.unicode_io.proofs.output.push_hexadecimal.Goals as goal

pub returns : goal.returns
returns c = hexadecimal_pushed c.args.n c.hex-k.result c.hex-k.new.out _ _ (omega arith) c.hex-k.ensures.len c.hex-k.ensures.digits c.push_elements.ensures
