use Rattle.std.proofs.Common.{rules}
use Rattle.show_io.proofs.Printing.{printing_begins, next_in, printing_less, printing_turn, printing_ends}
use Rattle.show_io.proofs.ansi.push_row.Goals as goal

pub loop-p-init : goal.loop-p-init
loop-p-init c = search printing_begins

pub push_cell-a-requires : goal.push_cell-a-requires
push_cell-a-requires c = record { in_row = search rules; in_row_2 = search next_in }

pub loop-p-smaller : goal.loop-p-smaller
loop-p-smaller c = search printing_less

pub loop-p-preserved : goal.loop-p-preserved
loop-p-preserved c = search printing_turn

pub returns : goal.returns
returns c = search printing_ends
