use Rattle.screen.proofs.Cutting.{right_fills, right_cut, right_past}
use Rattle.screen.proofs.screen.cut_right.Goals as goal

pub fill-requires : goal.fill-requires
fill-requires c = search right_fills

pub returns-then-at-end : goal.returns-then-at-end
returns-then-at-end c = search right_cut

pub returns-else-at-end : goal.returns-else-at-end
returns-else-at-end c = search right_past
