use Rattle.std.proofs.Common.{rules}
use Rattle.show_io.proofs.LineRows.{window_sum}
use Rattle.show_io.proofs.lines.window_end.Goals as goal

pub returns : goal.returns
returns c = window_sum c.args.view _ (search rules) c.saturating_add.ensures
