use Rattle.unicode_io.specs.Output.Laws.{head_due, no_head, few_rows}
use Rattle.unicode_io.proofs.output.push_head_of.Goals as goal

pub push_head-requires : goal.push_head-requires
push_head-requires c = search few_rows

pub returns-then-i-size-eq0 : goal.returns-then-i-size-eq0
returns-then-i-size-eq0 c = search head_due

pub returns : goal.returns
returns c = search no_head
