use Rattle.text.proofs.OverstrikeSteps.{back_none, back_struck}
use Rattle.text.proofs.overstrike.Conversion.on_backspace.Goals as goal

pub returns-in-Held : goal.returns-in-Held
returns-in-Held c = λ line part. back_struck _ line c.args.out.now c.args.self _ c.in-Held.is c.requires part

pub returns : goal.returns
returns c = λ line part. back_none _ line c.args.out.now _ c.args.self _ c.in_default.not-Held c.backspace-erased.ensures
