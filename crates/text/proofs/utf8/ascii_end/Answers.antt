use Rattle.text.proofs.AsciiRuns.{ascii_begins, ascii_four_law, ascii_more, ascii_stops, ascii_ends}
use Rattle.text.proofs.utf8.ascii_end.Goals as goal

pub loop-p-init : goal.loop-p-init
loop-p-init c = search ascii_begins

pub loop-p-preserved-then-is_ascii4 : goal.loop-p-preserved-then-is_ascii4
loop-p-preserved-then-is_ascii4 c = search ascii_four_law

pub returns-then-s-p-ge128 : goal.returns-then-s-p-ge128
returns-then-s-p-ge128 c = search ascii_stops

pub loop-p-preserved : goal.loop-p-preserved
loop-p-preserved c = search ascii_more

pub returns : goal.returns
returns c = search ascii_ends
