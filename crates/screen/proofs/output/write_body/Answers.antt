use Rattle.screen.proofs.Bytes.{plain_written, body_written}
use Rattle.screen.proofs.output.write_body.Goals as goal

pub returns-then-place-eq0 : goal.returns-then-place-eq0
returns-then-place-eq0 c = search plain_written

pub returns : goal.returns
returns c = search body_written
