use Rattle.spans.proofs.Searching.{length_more, length_ends}
use Rattle.spans.proofs.search.escapes_len.Goals as goal

pub loop-e-preserved : goal.loop-e-preserved
loop-e-preserved c = length_more _ _ _ c.loop-e.invariant _ (rw c.in-Some.is at c.next_escape.ensures)

pub returns : goal.returns
returns c = length_ends _ _ _ c.loop-e.invariant (rw c.in_default.is at c.next_escape.ensures)
