use Rattle.unicode_data.specs.Table.Parts.{begins, choice}
use Rattle.unicode_data.specs.Table150.{groups}
use Rattle.unicode_data.proofs.Lookup150.{ascends_in, in_group}
use Rattle.unicode_data.proofs.lookup_150.group_5.Goals as goal

pub find_row-requires : goal.find_row-requires
unfolding groups
find_row-requires c = ascends_in 5 0

pub returns-then-x-lt-FIRST_41 : goal.returns-then-x-lt-FIRST_41
unfolding begins groups
returns-then-x-lt-FIRST_41 c = in_group 5 _ _ (search choice depth 10)

pub find_row-requires-then-x-lt-FIRST_42 : goal.find_row-requires-then-x-lt-FIRST_42
unfolding groups
find_row-requires-then-x-lt-FIRST_42 c = ascends_in 5 1

pub returns-then-x-lt-FIRST_42 : goal.returns-then-x-lt-FIRST_42
unfolding begins groups
returns-then-x-lt-FIRST_42 c = in_group 5 _ _ (search choice depth 10)

pub find_row-requires-then-x-lt-FIRST_43 : goal.find_row-requires-then-x-lt-FIRST_43
unfolding groups
find_row-requires-then-x-lt-FIRST_43 c = ascends_in 5 2

pub returns-then-x-lt-FIRST_43 : goal.returns-then-x-lt-FIRST_43
unfolding begins groups
returns-then-x-lt-FIRST_43 c = in_group 5 _ _ (search choice depth 10)

pub find_row-requires-then-x-lt-FIRST_44 : goal.find_row-requires-then-x-lt-FIRST_44
unfolding groups
find_row-requires-then-x-lt-FIRST_44 c = ascends_in 5 3

pub returns-then-x-lt-FIRST_44 : goal.returns-then-x-lt-FIRST_44
unfolding begins groups
returns-then-x-lt-FIRST_44 c = in_group 5 _ _ (search choice depth 10)

pub find_row-requires-then-x-lt-FIRST_45 : goal.find_row-requires-then-x-lt-FIRST_45
unfolding groups
find_row-requires-then-x-lt-FIRST_45 c = ascends_in 5 4

pub returns-then-x-lt-FIRST_45 : goal.returns-then-x-lt-FIRST_45
unfolding begins groups
returns-then-x-lt-FIRST_45 c = in_group 5 _ _ (search choice depth 10)

pub find_row-requires-then-x-lt-FIRST_46 : goal.find_row-requires-then-x-lt-FIRST_46
unfolding groups
find_row-requires-then-x-lt-FIRST_46 c = ascends_in 5 5

pub returns-then-x-lt-FIRST_46 : goal.returns-then-x-lt-FIRST_46
unfolding begins groups
returns-then-x-lt-FIRST_46 c = in_group 5 _ _ (search choice depth 10)

pub find_row-requires-then-x-lt-FIRST_47 : goal.find_row-requires-then-x-lt-FIRST_47
unfolding groups
find_row-requires-then-x-lt-FIRST_47 c = ascends_in 5 6

pub returns-then-x-lt-FIRST_47 : goal.returns-then-x-lt-FIRST_47
unfolding begins groups
returns-then-x-lt-FIRST_47 c = in_group 5 _ _ (search choice depth 10)

pub find_row-requires-2 : goal.find_row-requires-2
unfolding groups
find_row-requires-2 c = ascends_in 5 7

pub returns : goal.returns
unfolding begins groups
returns c = in_group 5 _ _ (search choice depth 10)
