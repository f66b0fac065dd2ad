use Rattle.show_io.proofs.Parameters.{value_none, value_one, value_two}
use Rattle.show_io.proofs.ansi.push_value.Goals as goal

pub returns-then-v-eq1 : goal.returns-then-v-eq1
returns-then-v-eq1 c = search value_one

pub returns-then-v-eq2 : goal.returns-then-v-eq2
returns-then-v-eq2 c = search value_two

pub returns : goal.returns
returns c = search value_none
