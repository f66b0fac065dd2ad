use Rattle.spans.proofs.Searching.{match_unlike, match_some, match_none}
use Rattle.spans.proofs.search.escape_match.Goals as goal

pub returns-in_err-rest : goal.returns-in_err-rest
returns-in_err-rest c = rw (c.from_residual.ensures, ← c.bytes_from.ensures) (match_unlike _ _ c.strip_prefix.ensures.cases c.in_err-rest.was)

pub returns-then-n-byte_at : goal.returns-then-n-byte_at
returns-then-n-byte_at c = rw (← c.bytes_from.ensures) (match_some _ _ c.strip_prefix.ensures.cases _ c.in_ok-rest.was _ _ c.sequence_len-n.ensures.bytes c.byte_at.ensures c.if-n-byte_at.true)

pub returns : goal.returns
returns c = rw (← c.bytes_from.ensures) (match_none _ _ c.strip_prefix.ensures.cases _ c.in_ok-rest.was _ _ c.sequence_len-n.ensures.bytes c.byte_at.ensures c.if-n-byte_at.false)
