use Rattle.unicode_io.specs.Cells.Laws.{fill_none, fill_past, fill_part}
use Rattle.std.proofs.Common.{rules}
use Rattle.unicode_io.proofs.cells.fill_range.Goals as goal

pub returns-then-high-low : goal.returns-then-high-low
returns-then-high-low c = search fill_none

pub returns-then-cells-high : goal.returns-then-cells-high
returns-then-cells-high c = search fill_past

pub returns : goal.returns
returns c = fill_part c.args.bit c.args.weight c.args.low c.args.high c.args.cells.now c.fill_all.new.part c.fill_all.result (search rules) (search rules) c.fill_all.ensures
