use Rattle.screen.proofs.Storing.{record_lengthened, record_same}
use Rattle.screen.proofs.stored.write_record.Goals as goal

pub returns-then-kind-body : goal.returns-then-kind-body
returns-then-kind-body c = search record_lengthened

pub returns : goal.returns
returns c = search record_same
