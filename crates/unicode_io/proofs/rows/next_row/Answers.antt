use Rattle.std.proofs.Common.{rules}
use Rattle.unicode_io.specs.Rows.Laws.{found_none, found_row}
use Rattle.unicode_io.proofs.rows.next_row.Goals as goal

pub returns-then-kinds-low : goal.returns-then-kinds-low
returns-then-kinds-low c = found_none c.args.kinds.now c.args.at c.run_end-low.result c.run_end-low.ensures (search rules)

pub returns : goal.returns
returns c = found_row c.args.kinds.now c.args.at c.run_end-low.result c.run_end-low.ensures c.run_end-end.result (search rules) c.run_end-end.ensures
