use Rattle.unicode_io.specs.Output.Laws.{foot_due, no_foot, place_fits}
use Rattle.unicode_io.specs.Text.{ascii}
use Rattle.unicode_io.specs.Output.{foot}
use Rattle.unicode_io.proofs.output.push_foot_of.Goals as goal

pub overflow_add-i : goal.overflow_add-i
overflow_add-i c = record { fits = search place_fits }

pub returns-then-i-size : goal.returns-then-i-size
unfolding foot ascii
returns-then-i-size c = search foot_due

pub returns : goal.returns
returns c = search no_foot
