use Rattle.std.proofs.Common.{rules}
use Rattle.text.proofs.ConvertCall.{copied_turn, found_turn, line_copied}
use Rattle.text.proofs.overstrike.copy_line.Goals as goal

pub loop-i-preserved : goal.loop-i-preserved
loop-i-preserved c = (search rules, search found_turn, search copied_turn, search rules)

pub returns : goal.returns
returns c = search line_copied
