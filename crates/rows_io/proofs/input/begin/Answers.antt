use Rattle.rows_io.proofs.input.begin.Goals as goal

pub returns : goal.returns
returns c = rw c.nothing.ensures
