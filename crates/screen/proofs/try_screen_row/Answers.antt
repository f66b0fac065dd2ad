use Rattle.std.proofs.Common.{arith}
use Rattle.std.proofs.lemmas.Bool.{lt-leb}
use Rattle.std.proofs.Math.Bool.{and-false}
use Rattle.screen.proofs.RowCall.{row_refused}
use Rattle.screen.proofs.try_screen_row.Goals as goal

pub returns-in_default : goal.returns-in_default
returns-in_default c = row_refused _ _ _ _ (rw (lt-leb 1 c.args.width (omega arith)))

pub returns-in_default-2 : goal.returns-in_default-2
returns-in_default-2 c = row_refused _ _ _ _ (rw (lt-leb c.args.width 4096 (omega arith), and-false))
