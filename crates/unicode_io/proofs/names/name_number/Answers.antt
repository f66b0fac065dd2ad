use Rattle.unicode_io.specs.Names.{break_names, width_names, emoji_names, derived_names, joined}
use Rattle.unicode_io.specs.Names.Laws.{name_0, name_1, name_2, name_3}
use Rattle.unicode_io.proofs.names.name_number.Goals as goal

pub returns-in-0 : goal.returns-in-0
unfolding break_names joined
returns-in-0 c = search name_0

pub returns-in-1 : goal.returns-in-1
unfolding width_names joined
returns-in-1 c = search name_1

pub returns-in-2 : goal.returns-in-2
unfolding emoji_names joined
returns-in-2 c = search name_2

pub returns-in_default : goal.returns-in_default
unfolding derived_names joined
returns-in_default c = search name_3
