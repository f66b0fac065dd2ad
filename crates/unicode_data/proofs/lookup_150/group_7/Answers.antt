use Rattle.unicode_data.specs.Table.Parts.{begins, choice}
use Rattle.unicode_data.specs.Table150.{groups}
use Rattle.unicode_data.proofs.Lookup150.{ascends_in, in_group}
use Rattle.unicode_data.proofs.lookup_150.group_7.Goals as goal

pub find_row-requires : goal.find_row-requires
unfolding groups
find_row-requires c = ascends_in 7 0

pub returns-then-x-lt-FIRST_57 : goal.returns-then-x-lt-FIRST_57
unfolding begins groups
returns-then-x-lt-FIRST_57 c = in_group 7 _ _ (search choice depth 10)

pub find_row-requires-then-x-lt-FIRST_58 : goal.find_row-requires-then-x-lt-FIRST_58
unfolding groups
find_row-requires-then-x-lt-FIRST_58 c = ascends_in 7 1

pub returns-then-x-lt-FIRST_58 : goal.returns-then-x-lt-FIRST_58
unfolding begins groups
returns-then-x-lt-FIRST_58 c = in_group 7 _ _ (search choice depth 10)

pub find_row-requires-then-x-lt-FIRST_59 : goal.find_row-requires-then-x-lt-FIRST_59
unfolding groups
find_row-requires-then-x-lt-FIRST_59 c = ascends_in 7 2

pub returns-then-x-lt-FIRST_59 : goal.returns-then-x-lt-FIRST_59
unfolding begins groups
returns-then-x-lt-FIRST_59 c = in_group 7 _ _ (search choice depth 10)

pub find_row-requires-then-x-lt-FIRST_60 : goal.find_row-requires-then-x-lt-FIRST_60
unfolding groups
find_row-requires-then-x-lt-FIRST_60 c = ascends_in 7 3

pub returns-then-x-lt-FIRST_60 : goal.returns-then-x-lt-FIRST_60
unfolding begins groups
returns-then-x-lt-FIRST_60 c = in_group 7 _ _ (search choice depth 10)

pub find_row-requires-then-x-lt-FIRST_61 : goal.find_row-requires-then-x-lt-FIRST_61
unfolding groups
find_row-requires-then-x-lt-FIRST_61 c = ascends_in 7 4

pub returns-then-x-lt-FIRST_61 : goal.returns-then-x-lt-FIRST_61
unfolding begins groups
returns-then-x-lt-FIRST_61 c = in_group 7 _ _ (search choice depth 10)

pub find_row-requires-2 : goal.find_row-requires-2
unfolding groups
find_row-requires-2 c = ascends_in 7 5

pub returns : goal.returns
unfolding begins groups
returns c = in_group 7 _ _ (search choice depth 10)
