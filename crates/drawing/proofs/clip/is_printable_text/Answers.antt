use Rattle.std.proofs.Common.{rules, tests, ◌∙◌}
use Rattle.std.proofs.lemmas.Iterator.{YieldsList-from_slice}
use Rattle.std.proofs.lemmas.Iterator.Search.{all_from_yields_List}
use Rattle.text.specs.Class.Code.{printable}
use Rattle.drawing.proofs.Columns.{all_printable_is}
use Rattle.drawing.proofs.clip.is_printable_text.Goals as goal

pub returns : goal.returns
returns c = all_from_yields_List printable _ _ _ c.all.ensures.ran (YieldsList-from_slice c.args.text.now cc) (λ x b q k. search (rules, tests)) ∙ all_printable_is c.args.text.now
