use Rattle.std.proofs.Common.{arith}
use Rattle.unicode_io.specs.Cells.Laws.{kind_is, class_small, width_small}
use Rattle.unicode_io.proofs.cells.kind.Goals as goal

pub overflow_mul-result-2 : goal.overflow_mul-result-2
overflow_mul-result-2 c = record { fits = omega (arith, c.class.ensures, class_small c.before.args.cell) }

pub overflow_add-result : goal.overflow_add-result
overflow_add-result c = record { fits = omega (arith, c.class.ensures, class_small c.before.args.cell) }

pub overflow_add-result-2 : goal.overflow_add-result-2
overflow_add-result-2 c = record { fits = omega (arith, c.before.class.ensures, class_small c.before.before.args.cell, c.width.ensures, width_small c.before.before.args.cell) }

pub returns : goal.returns
returns c = search kind_is
