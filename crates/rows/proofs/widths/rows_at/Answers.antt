use Rattle.std.proofs.Common.{refl}
use Rattle.rows.proofs.TriedWidths.{rows_at_law}
use Rattle.rows.proofs.widths.rows_at.Goals as goal

pub returns : goal.returns
returns c = rows_at_law _ _ _ _ _ _ _ _ _ c.at-wrapping.ensures c.begin.ensures refl c.make_wrap.ensures
