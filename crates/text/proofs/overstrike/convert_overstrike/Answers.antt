use Rattle.text.proofs.ConvertCall.{plain_line, struck_line}
use Rattle.text.proofs.overstrike.convert_overstrike.Goals as goal

pub returns-then-copy_line : goal.returns-then-copy_line
returns-then-copy_line c = search struck_line

pub returns : goal.returns
returns c = search plain_line
