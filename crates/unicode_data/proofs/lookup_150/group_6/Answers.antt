use Rattle.unicode_data.specs.Table.Parts.{begins, choice}
use Rattle.unicode_data.specs.Table150.{groups}
use Rattle.unicode_data.proofs.Lookup150.{ascends_in, in_group}
use Rattle.unicode_data.proofs.lookup_150.group_6.Goals as goal

pub find_row-requires : goal.find_row-requires
unfolding groups
find_row-requires c = ascends_in 6 0

pub returns-then-x-lt-FIRST_49 : goal.returns-then-x-lt-FIRST_49
unfolding begins groups
returns-then-x-lt-FIRST_49 c = in_group 6 _ _ (search choice depth 10)

pub find_row-requires-then-x-lt-FIRST_50 : goal.find_row-requires-then-x-lt-FIRST_50
unfolding groups
find_row-requires-then-x-lt-FIRST_50 c = ascends_in 6 1

pub returns-then-x-lt-FIRST_50 : goal.returns-then-x-lt-FIRST_50
unfolding begins groups
returns-then-x-lt-FIRST_50 c = in_group 6 _ _ (search choice depth 10)

pub find_row-requires-then-x-lt-FIRST_51 : goal.find_row-requires-then-x-lt-FIRST_51
unfolding groups
find_row-requires-then-x-lt-FIRST_51 c = ascends_in 6 2

pub returns-then-x-lt-FIRST_51 : goal.returns-then-x-lt-FIRST_51
unfolding begins groups
returns-then-x-lt-FIRST_51 c = in_group 6 _ _ (search choice depth 10)

pub find_row-requires-then-x-lt-FIRST_52 : goal.find_row-requires-then-x-lt-FIRST_52
unfolding groups
find_row-requires-then-x-lt-FIRST_52 c = ascends_in 6 3

pub returns-then-x-lt-FIRST_52 : goal.returns-then-x-lt-FIRST_52
unfolding begins groups
returns-then-x-lt-FIRST_52 c = in_group 6 _ _ (search choice depth 10)

pub find_row-requires-then-x-lt-FIRST_53 : goal.find_row-requires-then-x-lt-FIRST_53
unfolding groups
find_row-requires-then-x-lt-FIRST_53 c = ascends_in 6 4

pub returns-then-x-lt-FIRST_53 : goal.returns-then-x-lt-FIRST_53
unfolding begins groups
returns-then-x-lt-FIRST_53 c = in_group 6 _ _ (search choice depth 10)

pub find_row-requires-then-x-lt-FIRST_54 : goal.find_row-requires-then-x-lt-FIRST_54
unfolding groups
find_row-requires-then-x-lt-FIRST_54 c = ascends_in 6 5

pub returns-then-x-lt-FIRST_54 : goal.returns-then-x-lt-FIRST_54
unfolding begins groups
returns-then-x-lt-FIRST_54 c = in_group 6 _ _ (search choice depth 10)

pub find_row-requires-then-x-lt-FIRST_55 : goal.find_row-requires-then-x-lt-FIRST_55
unfolding groups
find_row-requires-then-x-lt-FIRST_55 c = ascends_in 6 6

pub returns-then-x-lt-FIRST_55 : goal.returns-then-x-lt-FIRST_55
unfolding begins groups
returns-then-x-lt-FIRST_55 c = in_group 6 _ _ (search choice depth 10)

pub find_row-requires-2 : goal.find_row-requires-2
unfolding groups
find_row-requires-2 c = ascends_in 6 7

pub returns : goal.returns
unfolding begins groups
returns c = in_group 6 _ _ (search choice depth 10)
