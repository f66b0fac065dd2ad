use Rattle.screen.proofs.Cutting.{reach_fills, reach_more, reach_none}
use Rattle.screen.proofs.screen.Screen.reach.Goals as goal

pub fill-requires : goal.fill-requires
fill-requires c = search reach_fills

pub returns-then-self-at : goal.returns-then-self-at
returns-then-self-at c = search reach_more

pub returns : goal.returns
returns c = search reach_none
