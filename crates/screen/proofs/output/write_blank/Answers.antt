use Rattle.screen.proofs.Bytes.{blank_plain, blank_colored}
use Rattle.screen.proofs.output.write_blank.Goals as goal

pub returns-then-place-eq0 : goal.returns-then-place-eq0
returns-then-place-eq0 c = search blank_plain

pub returns : goal.returns
returns c = search blank_colored
