use Rattle.screen.proofs.Cutting.{left_fills, left_cut, left_whole, left_past}
use Rattle.screen.proofs.screen.cut_left.Goals as goal

pub fill-requires : goal.fill-requires
fill-requires c = left_fills _ _ _ _ c.requires c.if-at-end.true _ c.first_column-first.ensures

pub returns-then-is_later : goal.returns-then-is_later
returns-then-is_later c = search left_cut

pub returns-else-is_later : goal.returns-else-is_later
returns-else-is_later c = search left_whole

pub returns-else-at-end : goal.returns-else-at-end
returns-else-at-end c = search left_past
