use Rattle.std.proofs.Common.{rules}
use Rattle.unicode_table.specs.Files.Laws.{part_turn, part_stops}
use Rattle.unicode_table.proofs.files.read_open.Goals as goal

pub returns-in_default : goal.returns-in_default
returns-in_default c = part_stops c.args.file c.args.before c.loop.reading c.args.cells.now c.loop.cells c.more.new.cells c.loop.counter c.in_ok-next.field-0 c.loop.invariant.1 (search rules) c.in_default.is c.in_ok-next.ensures

pub loop-preserved : goal.loop-preserved
loop-preserved c = (
  search rules,
  part_turn c.args.file c.args.before c.loop.reading c.in-Some.next c.args.cells.now c.loop.cells c.more.new.cells c.loop.counter c.in_ok-next.field-0 c.loop.invariant.1 c.in-Some.is c.in_ok-next.ensures,
)
