use Rattle.unicode_data.specs.Table.Parts.{begins, choice}
use Rattle.unicode_data.specs.Table150.{groups}
use Rattle.unicode_data.proofs.Lookup150.{ascends_in, in_group}
use Rattle.unicode_data.proofs.lookup_150.group_3.Goals as goal

pub find_row-requires : goal.find_row-requires
unfolding groups
find_row-requires c = ascends_in 3 0

pub returns-then-x-lt-FIRST_25 : goal.returns-then-x-lt-FIRST_25
unfolding begins groups
returns-then-x-lt-FIRST_25 c = in_group 3 _ _ (search choice depth 10)

pub find_row-requires-then-x-lt-FIRST_26 : goal.find_row-requires-then-x-lt-FIRST_26
unfolding groups
find_row-requires-then-x-lt-FIRST_26 c = ascends_in 3 1

pub returns-then-x-lt-FIRST_26 : goal.returns-then-x-lt-FIRST_26
unfolding begins groups
returns-then-x-lt-FIRST_26 c = in_group 3 _ _ (search choice depth 10)

pub find_row-requires-then-x-lt-FIRST_27 : goal.find_row-requires-then-x-lt-FIRST_27
unfolding groups
find_row-requires-then-x-lt-FIRST_27 c = ascends_in 3 2

pub returns-then-x-lt-FIRST_27 : goal.returns-then-x-lt-FIRST_27
unfolding begins groups
returns-then-x-lt-FIRST_27 c = in_group 3 _ _ (search choice depth 10)

pub find_row-requires-then-x-lt-FIRST_28 : goal.find_row-requires-then-x-lt-FIRST_28
unfolding groups
find_row-requires-then-x-lt-FIRST_28 c = ascends_in 3 3

pub returns-then-x-lt-FIRST_28 : goal.returns-then-x-lt-FIRST_28
unfolding begins groups
returns-then-x-lt-FIRST_28 c = in_group 3 _ _ (search choice depth 10)

pub find_row-requires-then-x-lt-FIRST_29 : goal.find_row-requires-then-x-lt-FIRST_29
unfolding groups
find_row-requires-then-x-lt-FIRST_29 c = ascends_in 3 4

pub returns-then-x-lt-FIRST_29 : goal.returns-then-x-lt-FIRST_29
unfolding begins groups
returns-then-x-lt-FIRST_29 c = in_group 3 _ _ (search choice depth 10)

pub find_row-requires-then-x-lt-FIRST_30 : goal.find_row-requires-then-x-lt-FIRST_30
unfolding groups
find_row-requires-then-x-lt-FIRST_30 c = ascends_in 3 5

pub returns-then-x-lt-FIRST_30 : goal.returns-then-x-lt-FIRST_30
unfolding begins groups
returns-then-x-lt-FIRST_30 c = in_group 3 _ _ (search choice depth 10)

pub find_row-requires-then-x-lt-FIRST_31 : goal.find_row-requires-then-x-lt-FIRST_31
unfolding groups
find_row-requires-then-x-lt-FIRST_31 c = ascends_in 3 6

pub returns-then-x-lt-FIRST_31 : goal.returns-then-x-lt-FIRST_31
unfolding begins groups
returns-then-x-lt-FIRST_31 c = in_group 3 _ _ (search choice depth 10)

pub find_row-requires-2 : goal.find_row-requires-2
unfolding groups
find_row-requires-2 c = ascends_in 3 7

pub returns : goal.returns
unfolding begins groups
returns c = in_group 3 _ _ (search choice depth 10)
