use Rattle.rows_io.proofs.Pairs.{pairs_all, pairs_past}
use Rattle.rows_io.proofs.output.pairs_len.Goals as goal

pub returns-then-count-n : goal.returns-then-count-n
returns-then-count-n c = search pairs_all

pub returns : goal.returns
returns c = search pairs_past
