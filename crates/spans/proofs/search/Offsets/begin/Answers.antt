use Rattle.spans.proofs.Searching.{offsets_begin}
use Rattle.spans.proofs.search.Offsets.begin.Goals as goal

pub returns : goal.returns
returns c = search offsets_begin
