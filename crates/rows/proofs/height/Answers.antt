use Rattle.std.proofs.Common.{refl, ap, ◌∙◌}
use Rattle.rows.specs.Numbers.{read_of}
use Rattle.rows.specs.Calls.Contracts.Laws.{answered_height}
use Rattle.rows.proofs.height.Goals as goal

pub returns : goal.returns
returns c = ap read_of c.answer_line.ensures ∙ answered_height _ _ _ _ _ refl refl
