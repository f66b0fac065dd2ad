use mathlib.Core.Path.{sym, ◌∙◌}
use borrow.Author.Tests.{eqb-true, eqb-false}
use Rattle.rows.proofs.PushedRows.{last_unwrapped, last_some, last_none}
use Rattle.rows.proofs.wrap.WrapState.last_row.Goals as goal

pub returns-then-is_unwrapped : goal.returns-then-is_unwrapped
returns-then-is_unwrapped c = last_unwrapped _ _ _ _ _ (eqb-true _ 0 (sym c.is_unwrapped.ensures ∙ c.if-is_unwrapped.true)) c.push.ensures

pub returns-then-self-tally : goal.returns-then-self-tally
returns-then-self-tally c = last_some _ _ _ (eqb-false _ 0 (sym c.is_unwrapped.ensures ∙ c.if-is_unwrapped.false)) _ _ c.if-self-tally.true c.push-then-self-tally.ensures

pub returns : goal.returns
returns c = last_none _ _ _ (eqb-false _ 0 (sym c.is_unwrapped.ensures ∙ c.if-is_unwrapped.false)) c.if-self-tally.false
