use Rattle.cache.proofs.CachedLine.{height_line_ready, height_line_left}
use Rattle.cache.proofs.cached_height.Goals as goal

pub cached_line-requires : goal.cached_line-requires
cached_line-requires c = height_line_ready _ _ _ _ _ _ c.told-wraps _ c.height_request-request.ensures

pub returns : goal.returns
returns c = height_line_left _ _ _ _ _ _ c.told-wraps _ _ _ _ _ _ c.height_request-request.ensures c.cached_line.ensures
