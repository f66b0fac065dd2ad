use Rattle.unicode_data.specs.Table.Parts.{begins, choice}
use Rattle.unicode_data.specs.Table150.{groups}
use Rattle.unicode_data.proofs.Lookup150.{ascends_in, in_group}
use Rattle.unicode_data.proofs.lookup_150.group_0.Goals as goal

pub find_row-requires : goal.find_row-requires
unfolding groups
find_row-requires c = ascends_in 0 0

pub returns-then-x-lt-FIRST_1 : goal.returns-then-x-lt-FIRST_1
unfolding begins groups
returns-then-x-lt-FIRST_1 c = in_group 0 _ _ (search choice depth 10)

pub find_row-requires-then-x-lt-FIRST_2 : goal.find_row-requires-then-x-lt-FIRST_2
unfolding groups
find_row-requires-then-x-lt-FIRST_2 c = ascends_in 0 1

pub returns-then-x-lt-FIRST_2 : goal.returns-then-x-lt-FIRST_2
unfolding begins groups
returns-then-x-lt-FIRST_2 c = in_group 0 _ _ (search choice depth 10)

pub find_row-requires-then-x-lt-FIRST_3 : goal.find_row-requires-then-x-lt-FIRST_3
unfolding groups
find_row-requires-then-x-lt-FIRST_3 c = ascends_in 0 2

pub returns-then-x-lt-FIRST_3 : goal.returns-then-x-lt-FIRST_3
unfolding begins groups
returns-then-x-lt-FIRST_3 c = in_group 0 _ _ (search choice depth 10)

pub find_row-requires-then-x-lt-FIRST_4 : goal.find_row-requires-then-x-lt-FIRST_4
unfolding groups
find_row-requires-then-x-lt-FIRST_4 c = ascends_in 0 3

pub returns-then-x-lt-FIRST_4 : goal.returns-then-x-lt-FIRST_4
unfolding begins groups
returns-then-x-lt-FIRST_4 c = in_group 0 _ _ (search choice depth 10)

pub find_row-requires-then-x-lt-FIRST_5 : goal.find_row-requires-then-x-lt-FIRST_5
unfolding groups
find_row-requires-then-x-lt-FIRST_5 c = ascends_in 0 4

pub returns-then-x-lt-FIRST_5 : goal.returns-then-x-lt-FIRST_5
unfolding begins groups
returns-then-x-lt-FIRST_5 c = in_group 0 _ _ (search choice depth 10)

pub find_row-requires-then-x-lt-FIRST_6 : goal.find_row-requires-then-x-lt-FIRST_6
unfolding groups
find_row-requires-then-x-lt-FIRST_6 c = ascends_in 0 5

pub returns-then-x-lt-FIRST_6 : goal.returns-then-x-lt-FIRST_6
unfolding begins groups
returns-then-x-lt-FIRST_6 c = in_group 0 _ _ (search choice depth 10)

pub find_row-requires-then-x-lt-FIRST_7 : goal.find_row-requires-then-x-lt-FIRST_7
unfolding groups
find_row-requires-then-x-lt-FIRST_7 c = ascends_in 0 6

pub returns-then-x-lt-FIRST_7 : goal.returns-then-x-lt-FIRST_7
unfolding begins groups
returns-then-x-lt-FIRST_7 c = in_group 0 _ _ (search choice depth 10)

pub find_row-requires-2 : goal.find_row-requires-2
unfolding groups
find_row-requires-2 c = ascends_in 0 7

pub returns : goal.returns
unfolding begins groups
returns c = in_group 0 _ _ (search choice depth 10)
