use Rattle.drawing.proofs.Wrapped.{window_drawn}
use Rattle.drawing.proofs.render_window.Goals as goal

pub returns : goal.returns
returns c = window_drawn _ _ c.requires.room c.args.view.reader c.args.view.current _ _ _ c.window_start.ensures _ _ _ c.render.ensures
