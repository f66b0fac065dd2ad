use Rattle.screen.proofs.Bodies.{fields_is}
use Rattle.screen.proofs.body.are_fields.Goals as goal

pub returns : goal.returns
returns c = search fields_is
