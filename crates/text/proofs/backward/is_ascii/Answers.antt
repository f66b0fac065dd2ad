use Rattle.text.proofs.backward.is_ascii.Goals as goal

pub returns : goal.returns
returns c = cc
