use Rattle.std.proofs.Common.{refl}
use Rattle.drawing.proofs.Wrapped.{wrap_room, area_fits, rows_drawn}
use Rattle.drawing.proofs.render_wrapped.Goals as goal

pub make_wrap-tally-requires : goal.make_wrap-tally-requires
make_wrap-tally-requires c = wrap_room _ _ c.requires.room _ _ _ _ c.requires.limits _ _ c.begin-state.ensures

pub overflow_mul-rendering : goal.overflow_mul-rendering
overflow_mul-rendering c = record { fits = area_fits _ _ c.requires.room _ _ _ _ c.requires.limits }

pub returns : goal.returns
returns c = rows_drawn _ _ c.requires.room _ _ _ _ c.requires.limits _ refl _ c.at-wrapping.ensures _ c.begin-state.ensures _ _ c.make_wrap-tally.ensures c.args.view.reader c.args.view.current _ _ c.wrap_bounds_for_rows-window.ensures c.beyond-columns.ensures _ _ _ c.render.ensures
