use Rattle.text.specs.Overstrike.Code.{style_of}
use Rattle.text.proofs.OverstrikeSteps.{ambiguous_by}
use Rattle.text.proofs.overstrike.Overstrike.strike_underscore.Goals as goal

pub returns-then-self : goal.returns-then-self
unfolding style_of
returns-then-self c = rw c.if-self.true at (ambiguous_by c.args.before c.args.self)

pub returns-then-before : goal.returns-then-before
unfolding style_of
returns-then-before c = rw (c.if-self.false, c.if-before.true) at (ambiguous_by c.args.before c.args.self)

pub returns : goal.returns
unfolding style_of
returns c = rw (c.if-self.false, c.if-before.false) at (ambiguous_by c.args.before c.args.self)
