use Rattle.marks.proofs.Composing.{seen_pushed, not_seen}
use Rattle.marks.proofs.composed.push_seen.Goals as goal

pub returns-then-from-mark : goal.returns-then-from-mark
returns-then-from-mark c = search seen_pushed

pub returns : goal.returns
returns c = search not_seen
