use Rattle.unicode_data.specs.Table.{joined}
use Rattle.unicode_data.specs.Table.Parts.{begins, choice}
use Rattle.unicode_data.specs.Table150.{groups}
use Rattle.unicode_data.proofs.Lookup150.{in_table}
use Rattle.unicode_data.proofs.lookup_150.find_150.Goals as goal

pub returns-then-x-lt-FIRST_8 : goal.returns-then-x-lt-FIRST_8
unfolding begins joined groups
returns-then-x-lt-FIRST_8 c = in_table _ _ (search choice depth 10)

pub returns-then-x-lt-FIRST_16 : goal.returns-then-x-lt-FIRST_16
unfolding begins joined groups
returns-then-x-lt-FIRST_16 c = in_table _ _ (search choice depth 10)

pub returns-then-x-lt-FIRST_24 : goal.returns-then-x-lt-FIRST_24
unfolding begins joined groups
returns-then-x-lt-FIRST_24 c = in_table _ _ (search choice depth 10)

pub returns-then-x-lt-FIRST_32 : goal.returns-then-x-lt-FIRST_32
unfolding begins joined groups
returns-then-x-lt-FIRST_32 c = in_table _ _ (search choice depth 10)

pub returns-then-x-lt-FIRST_40 : goal.returns-then-x-lt-FIRST_40
unfolding begins joined groups
returns-then-x-lt-FIRST_40 c = in_table _ _ (search choice depth 10)

pub returns-then-x-lt-FIRST_48 : goal.returns-then-x-lt-FIRST_48
unfolding begins joined groups
returns-then-x-lt-FIRST_48 c = in_table _ _ (search choice depth 10)

pub returns-then-x-lt-FIRST_56 : goal.returns-then-x-lt-FIRST_56
unfolding begins joined groups
returns-then-x-lt-FIRST_56 c = in_table _ _ (search choice depth 10)

pub returns : goal.returns
unfolding begins joined groups
returns c = in_table _ _ (search choice depth 10)
