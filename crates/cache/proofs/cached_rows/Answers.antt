use Rattle.cache.proofs.CachedLine.{rows_line_ready, rows_line_left}
use Rattle.cache.proofs.cached_rows.Goals as goal

pub cached_line-requires : goal.cached_line-requires
cached_line-requires c = search rows_line_ready

pub returns : goal.returns
returns c = search rows_line_left
