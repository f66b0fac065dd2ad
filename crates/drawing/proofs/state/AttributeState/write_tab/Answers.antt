use Rattle.drawing.proofs.Marks.{tab_fits, tab_ready, tab_wrote}
use Rattle.drawing.proofs.state.AttributeState.write_tab.Goals as goal

pub slice_bounds-spaces-end : goal.slice_bounds-spaces-end
slice_bounds-spaces-end c = search tab_fits

pub write_columns-requires : goal.write_columns-requires
write_columns-requires c = search tab_ready

pub returns : goal.returns
returns c = search tab_wrote
