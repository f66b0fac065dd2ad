use Rattle.spans.proofs.Sequences.{known_some, known_none}
use Rattle.spans.proofs.sequence.style.Goals as goal

pub returns-in_err-next : goal.returns-in_err-next
returns-in_err-next c = rw c.from_residual.ensures (known_none c.args.s.now c.args.n _ c.at.ensures.orders c.in_err-next.ensures.steps.0)

pub returns : goal.returns
returns c = known_some c.args.s.now c.args.n _ c.at.ensures.orders _ _ c.in_ok-next.ensures.steps
