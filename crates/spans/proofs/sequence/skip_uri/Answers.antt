use Rattle.spans.proofs.Sequences.{skipped}
use Rattle.spans.proofs.sequence.skip_uri.Goals as goal

pub returns : goal.returns
returns c = skipped _ _ _ _ _ c.bytes_from.ensures c.uri_len.ensures.uri
