use Rattle.std.proofs.Common.{rules, tests, ◌∙◌}
use Rattle.std.proofs.lemmas.Iterator.{YieldsList-from_slice}
use Rattle.std.proofs.lemmas.Iterator.Search.{any_from_yields_List}
use Rattle.text.specs.Utf8.{to, within}
use Rattle.drawing.proofs.LineDrawing.{has_replacements_is}
use Rattle.drawing.proofs.line_drawing.has_replacements.Goals as goal

pub returns : goal.returns
returns c = any_from_yields_List (within (to 0x5F 0x7E)) _ _ _ c.any.ensures.ran (YieldsList-from_slice c.args.text.now cc) (λ x b q k. search (rules, tests)) ∙ has_replacements_is c.args.text.now
