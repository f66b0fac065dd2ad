use Rattle.unicode_data.specs.Table.Parts.{begins, choice}
use Rattle.unicode_data.specs.Table150.{groups}
use Rattle.unicode_data.proofs.Lookup150.{ascends_in, in_group}
use Rattle.unicode_data.proofs.lookup_150.group_1.Goals as goal

pub find_row-requires : goal.find_row-requires
unfolding groups
find_row-requires c = ascends_in 1 0

pub returns-then-x-lt-FIRST_9 : goal.returns-then-x-lt-FIRST_9
unfolding begins groups
returns-then-x-lt-FIRST_9 c = in_group 1 _ _ (search choice depth 10)

pub find_row-requires-then-x-lt-FIRST_10 : goal.find_row-requires-then-x-lt-FIRST_10
unfolding groups
find_row-requires-then-x-lt-FIRST_10 c = ascends_in 1 1

pub returns-then-x-lt-FIRST_10 : goal.returns-then-x-lt-FIRST_10
unfolding begins groups
returns-then-x-lt-FIRST_10 c = in_group 1 _ _ (search choice depth 10)

pub find_row-requires-then-x-lt-FIRST_11 : goal.find_row-requires-then-x-lt-FIRST_11
unfolding groups
find_row-requires-then-x-lt-FIRST_11 c = ascends_in 1 2

pub returns-then-x-lt-FIRST_11 : goal.returns-then-x-lt-FIRST_11
unfolding begins groups
returns-then-x-lt-FIRST_11 c = in_group 1 _ _ (search choice depth 10)

pub find_row-requires-then-x-lt-FIRST_12 : goal.find_row-requires-then-x-lt-FIRST_12
unfolding groups
find_row-requires-then-x-lt-FIRST_12 c = ascends_in 1 3

pub returns-then-x-lt-FIRST_12 : goal.returns-then-x-lt-FIRST_12
unfolding begins groups
returns-then-x-lt-FIRST_12 c = in_group 1 _ _ (search choice depth 10)

pub find_row-requires-then-x-lt-FIRST_13 : goal.find_row-requires-then-x-lt-FIRST_13
unfolding groups
find_row-requires-then-x-lt-FIRST_13 c = ascends_in 1 4

pub returns-then-x-lt-FIRST_13 : goal.returns-then-x-lt-FIRST_13
unfolding begins groups
returns-then-x-lt-FIRST_13 c = in_group 1 _ _ (search choice depth 10)

pub find_row-requires-then-x-lt-FIRST_14 : goal.find_row-requires-then-x-lt-FIRST_14
unfolding groups
find_row-requires-then-x-lt-FIRST_14 c = ascends_in 1 5

pub returns-then-x-lt-FIRST_14 : goal.returns-then-x-lt-FIRST_14
unfolding begins groups
returns-then-x-lt-FIRST_14 c = in_group 1 _ _ (search choice depth 10)

pub find_row-requires-then-x-lt-FIRST_15 : goal.find_row-requires-then-x-lt-FIRST_15
unfolding groups
find_row-requires-then-x-lt-FIRST_15 c = ascends_in 1 6

pub returns-then-x-lt-FIRST_15 : goal.returns-then-x-lt-FIRST_15
unfolding begins groups
returns-then-x-lt-FIRST_15 c = in_group 1 _ _ (search choice depth 10)

pub find_row-requires-2 : goal.find_row-requires-2
unfolding groups
find_row-requires-2 c = ascends_in 1 7

pub returns : goal.returns
unfolding begins groups
returns c = in_group 1 _ _ (search choice depth 10)
