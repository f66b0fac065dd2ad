use Rattle.std.proofs.Common.{rules}
use Rattle.rows_io.proofs.Lines.{rows_begin, rows_turn, rows_end}
use Rattle.rows_io.proofs.output.push_rows.Goals as goal

pub loop-i-init : goal.loop-i-init
loop-i-init c = (search rules, search rows_begin)

pub loop-i-preserved : goal.loop-i-preserved
loop-i-preserved c = (search rules, search rows_turn)

pub returns : goal.returns
returns c = search rows_end
