use Rattle.text.proofs.OverstrikeSteps.{underline_style}
use Rattle.text.proofs.overstrike.Overstrike.underline.Goals as goal

pub returns : goal.returns
returns c = underline_style c.args.self.bold c.args.self.underline
