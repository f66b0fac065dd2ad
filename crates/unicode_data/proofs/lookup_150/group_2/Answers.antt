use Rattle.unicode_data.specs.Table.Parts.{begins, choice}
use Rattle.unicode_data.specs.Table150.{groups}
use Rattle.unicode_data.proofs.Lookup150.{ascends_in, in_group}
use Rattle.unicode_data.proofs.lookup_150.group_2.Goals as goal

pub find_row-requires : goal.find_row-requires
unfolding groups
find_row-requires c = ascends_in 2 0

pub returns-then-x-lt-FIRST_17 : goal.returns-then-x-lt-FIRST_17
unfolding begins groups
returns-then-x-lt-FIRST_17 c = in_group 2 _ _ (search choice depth 10)

pub find_row-requires-then-x-lt-FIRST_18 : goal.find_row-requires-then-x-lt-FIRST_18
unfolding groups
find_row-requires-then-x-lt-FIRST_18 c = ascends_in 2 1

pub returns-then-x-lt-FIRST_18 : goal.returns-then-x-lt-FIRST_18
unfolding begins groups
returns-then-x-lt-FIRST_18 c = in_group 2 _ _ (search choice depth 10)

pub find_row-requires-then-x-lt-FIRST_19 : goal.find_row-requires-then-x-lt-FIRST_19
unfolding groups
find_row-requires-then-x-lt-FIRST_19 c = ascends_in 2 2

pub returns-then-x-lt-FIRST_19 : goal.returns-then-x-lt-FIRST_19
unfolding begins groups
returns-then-x-lt-FIRST_19 c = in_group 2 _ _ (search choice depth 10)

pub find_row-requires-then-x-lt-FIRST_20 : goal.find_row-requires-then-x-lt-FIRST_20
unfolding groups
find_row-requires-then-x-lt-FIRST_20 c = ascends_in 2 3

pub returns-then-x-lt-FIRST_20 : goal.returns-then-x-lt-FIRST_20
unfolding begins groups
returns-then-x-lt-FIRST_20 c = in_group 2 _ _ (search choice depth 10)

pub find_row-requires-then-x-lt-FIRST_21 : goal.find_row-requires-then-x-lt-FIRST_21
unfolding groups
find_row-requires-then-x-lt-FIRST_21 c = ascends_in 2 4

pub returns-then-x-lt-FIRST_21 : goal.returns-then-x-lt-FIRST_21
unfolding begins groups
returns-then-x-lt-FIRST_21 c = in_group 2 _ _ (search choice depth 10)

pub find_row-requires-then-x-lt-FIRST_22 : goal.find_row-requires-then-x-lt-FIRST_22
unfolding groups
find_row-requires-then-x-lt-FIRST_22 c = ascends_in 2 5

pub returns-then-x-lt-FIRST_22 : goal.returns-then-x-lt-FIRST_22
unfolding begins groups
returns-then-x-lt-FIRST_22 c = in_group 2 _ _ (search choice depth 10)

pub find_row-requires-then-x-lt-FIRST_23 : goal.find_row-requires-then-x-lt-FIRST_23
unfolding groups
find_row-requires-then-x-lt-FIRST_23 c = ascends_in 2 6

pub returns-then-x-lt-FIRST_23 : goal.returns-then-x-lt-FIRST_23
unfolding begins groups
returns-then-x-lt-FIRST_23 c = in_group 2 _ _ (search choice depth 10)

pub find_row-requires-2 : goal.find_row-requires-2
unfolding groups
find_row-requires-2 c = ascends_in 2 7

pub returns : goal.returns
unfolding begins groups
returns c = in_group 2 _ _ (search choice depth 10)
