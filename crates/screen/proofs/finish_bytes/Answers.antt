use Rattle.screen.proofs.Answers.{bytes_lost, bytes_kept}
use Rattle.screen.proofs.finish_bytes.Goals as goal

pub returns-then-out-count : goal.returns-then-out-count
returns-then-out-count c = search bytes_lost

pub returns : goal.returns
returns c = search bytes_kept
