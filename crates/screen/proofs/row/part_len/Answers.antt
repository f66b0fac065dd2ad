use Rattle.screen.proofs.Cells.{no_part, part_size_law}
use Rattle.screen.proofs.row.part_len.Goals as goal

pub returns-then-list-at : goal.returns-then-list-at
returns-then-list-at c = search no_part

pub returns : goal.returns
returns c = search part_size_law
