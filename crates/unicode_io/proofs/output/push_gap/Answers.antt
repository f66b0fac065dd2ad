use Rattle.unicode_io.specs.Text.{ascii}
use Rattle.unicode_io.specs.Output.Laws.{gap_due, no_gap}
use Rattle.unicode_io.proofs.output.push_gap.Goals as goal

pub returns-then-part-eq0 : goal.returns-then-part-eq0
returns-then-part-eq0 c = search no_gap

pub returns : goal.returns
unfolding ascii
returns c = search gap_due
