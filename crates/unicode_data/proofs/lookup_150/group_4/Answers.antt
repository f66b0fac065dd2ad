use Rattle.unicode_data.specs.Table.Parts.{begins, choice}
use Rattle.unicode_data.specs.Table150.{groups}
use Rattle.unicode_data.proofs.Lookup150.{ascends_in, in_group}
use Rattle.unicode_data.proofs.lookup_150.group_4.Goals as goal

pub find_row-requires : goal.find_row-requires
unfolding groups
find_row-requires c = ascends_in 4 0

pub returns-then-x-lt-FIRST_33 : goal.returns-then-x-lt-FIRST_33
unfolding begins groups
returns-then-x-lt-FIRST_33 c = in_group 4 _ _ (search choice depth 10)

pub find_row-requires-then-x-lt-FIRST_34 : goal.find_row-requires-then-x-lt-FIRST_34
unfolding groups
find_row-requires-then-x-lt-FIRST_34 c = ascends_in 4 1

pub returns-then-x-lt-FIRST_34 : goal.returns-then-x-lt-FIRST_34
unfolding begins groups
returns-then-x-lt-FIRST_34 c = in_group 4 _ _ (search choice depth 10)

pub find_row-requires-then-x-lt-FIRST_35 : goal.find_row-requires-then-x-lt-FIRST_35
unfolding groups
find_row-requires-then-x-lt-FIRST_35 c = ascends_in 4 2

pub returns-then-x-lt-FIRST_35 : goal.returns-then-x-lt-FIRST_35
unfolding begins groups
returns-then-x-lt-FIRST_35 c = in_group 4 _ _ (search choice depth 10)

pub find_row-requires-then-x-lt-FIRST_36 : goal.find_row-requires-then-x-lt-FIRST_36
unfolding groups
find_row-requires-then-x-lt-FIRST_36 c = ascends_in 4 3

pub returns-then-x-lt-FIRST_36 : goal.returns-then-x-lt-FIRST_36
unfolding begins groups
returns-then-x-lt-FIRST_36 c = in_group 4 _ _ (search choice depth 10)

pub find_row-requires-then-x-lt-FIRST_37 : goal.find_row-requires-then-x-lt-FIRST_37
unfolding groups
find_row-requires-then-x-lt-FIRST_37 c = ascends_in 4 4

pub returns-then-x-lt-FIRST_37 : goal.returns-then-x-lt-FIRST_37
unfolding begins groups
returns-then-x-lt-FIRST_37 c = in_group 4 _ _ (search choice depth 10)

pub find_row-requires-then-x-lt-FIRST_38 : goal.find_row-requires-then-x-lt-FIRST_38
unfolding groups
find_row-requires-then-x-lt-FIRST_38 c = ascends_in 4 5

pub returns-then-x-lt-FIRST_38 : goal.returns-then-x-lt-FIRST_38
unfolding begins groups
returns-then-x-lt-FIRST_38 c = in_group 4 _ _ (search choice depth 10)

pub find_row-requires-then-x-lt-FIRST_39 : goal.find_row-requires-then-x-lt-FIRST_39
unfolding groups
find_row-requires-then-x-lt-FIRST_39 c = ascends_in 4 6

pub returns-then-x-lt-FIRST_39 : goal.returns-then-x-lt-FIRST_39
unfolding begins groups
returns-then-x-lt-FIRST_39 c = in_group 4 _ _ (search choice depth 10)

pub find_row-requires-2 : goal.find_row-requires-2
unfolding groups
find_row-requires-2 c = ascends_in 4 7

pub returns : goal.returns
unfolding begins groups
returns c = in_group 4 _ _ (search choice depth 10)
