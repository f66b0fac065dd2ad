use Rattle.unicode_io.specs.Line.Laws.{stage_past}
use Rattle.unicode_io.proofs.line.Line.stage_after.Goals as goal

pub returns-in-None : goal.returns-in-None
returns-in-None c = stage_past c.args.self.stage c.args.b c.in-None.ensures
