use Rattle.text.proofs.Classes.{tag_is}
use Rattle.text.proofs.rules.Before.ends_in.Goals as goal

pub returns-in-Scalar : goal.returns-in-Scalar
returns-in-Scalar c = rw (c.in-Scalar.is, ← tag_is c.in-Scalar.last, ← tag_is c.args.class) c.eq.ensures
