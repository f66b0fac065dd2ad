use Rattle.std.proofs.Common.{sym}
use lib.Seq.{length-take-le}
use Rattle.cache.proofs.Uses.{keep_written, keep_fits}
use Rattle.cache.proofs.wraps.add_wrap.Goals as goal

pub slice_bounds-copy-end : goal.slice_bounds-copy-end
slice_bounds-copy-end c = sym (length-take-le _ _ c.requires.room)

pub copy-requires : goal.copy-requires
copy-requires c = search keep_fits

pub returns : goal.returns
returns c = search keep_written
