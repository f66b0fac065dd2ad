use Rattle.spans.proofs.Searching.{escape_more, escape_unlike, escape_found, escape_past}
use Rattle.spans.proofs.search.next_escape.Goals as goal
use Rattle.spans.proofs.search.next_escape.Goals.{then-s-from-eq27+in_default, else-s-from-eq27}

pub returns-in-Some : goal.returns-in-Some
returns-in-Some c = escape_found _ _ _ c.loop-from.invariant _ c.loop-from-test.true c.in-Some.ensures

pub loop-from-preserved : goal.loop-from-preserved
loop-from-preserved c = elim c.if-s-from-eq27.branch [
  | then-s-from-eq27+in_default w ↦ escape_more _ _ _ c.loop-from.invariant c.loop-from-test.true w.in_default.ensures
  | else-s-from-eq27 w ↦ escape_unlike _ _ _ c.loop-from.invariant c.loop-from-test.true w.if-s-from-eq27.false
]

pub returns : goal.returns
returns c = search escape_past
