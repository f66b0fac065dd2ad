use Rattle.unicode_io.specs.Names.Laws.{agree_on, agree_not, agree_past}
use Rattle.unicode_io.proofs.names.agree.Goals as goal

pub returns-then-word-at : goal.returns-then-word-at
returns-then-word-at c = search agree_on

pub returns-then-at-word : goal.returns-then-at-word
returns-then-at-word c = search agree_not

pub returns : goal.returns
returns c = search agree_past
