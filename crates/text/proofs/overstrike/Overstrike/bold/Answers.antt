use Rattle.text.proofs.OverstrikeSteps.{bold_style}
use Rattle.text.proofs.overstrike.Overstrike.bold.Goals as goal

pub returns : goal.returns
returns c = bold_style c.args.self.bold c.args.self.underline
