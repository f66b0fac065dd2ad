use Rattle.text.proofs.Erasing.{erase_add, erase_back}
use Rattle.text.proofs.overstrike.backspace.Goals as goal

pub returns-then-k-len : goal.returns-then-k-len
returns-then-k-len c = search erase_back

pub returns : goal.returns
returns c = search erase_add
