use Rattle.spans.proofs.Searching.{EscapeLoop}
use Rattle.spans.proofs.search.next_escape.Given as goal

abbrev pub invariant-loop-from : goal.invariant-loop-from
invariant-loop-from l = EscapeLoop l.s l.at l.from
