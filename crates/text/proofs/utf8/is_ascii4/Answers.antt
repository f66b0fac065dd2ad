use Rattle.text.proofs.AsciiRuns.{four_short, four_long}
use Rattle.text.proofs.utf8.is_ascii4.Goals as goal

pub returns-then-s-at-lt4 : goal.returns-then-s-at-lt4
returns-then-s-at-lt4 c = search four_short

pub returns : goal.returns
returns c = search four_long
