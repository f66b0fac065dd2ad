use mathlib.Core.Path.{◌≡◌}
use lib.ListN.{length}
use Rattle.rows_program.proofs.Parts.{Asking}
use Rattle.rows_program.proofs.input.all.Given as goal

abbrev pub invariant-loop-turns : goal.invariant-loop-turns
invariant-loop-turns g l = (length l.line ≡ length l.initial.line) × Asking l.initial.line l.line l.state l.turns

abbrev pub decreases-loop-turns : goal.decreases-loop-turns
decreases-loop-turns g l = l.turns
