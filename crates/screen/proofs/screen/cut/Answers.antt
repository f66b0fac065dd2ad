use Rattle.screen.proofs.screen.cut.Goals as goal

pub returns : goal.returns
returns c = cc
