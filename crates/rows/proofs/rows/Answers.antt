use Rattle.std.proofs.Common.{refl, ◌∙◌}
use Rattle.rows.specs.Calls.Contracts.Laws.{answered_rows}
use Rattle.rows.proofs.rows.Goals as goal

pub returns : goal.returns
returns c = c.answer_line.ensures ∙ answered_rows _ _ _ _ _ refl refl
