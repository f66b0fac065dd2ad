use Rattle.std.proofs.Common.{refl, rules}
use Rattle.spans.proofs.Parameters.{left_after, no_number, one_number, progress, stays}
use Rattle.spans.specs.Sgr.Contracts.{numbers_left, stand_of}
use Rattle.spans.proofs.sgr.ParametersIterator.next.Goals as goal

pub returns-then-not-self-clause-steps : goal.returns-then-not-self-clause-steps
returns-then-not-self-clause-steps c = (no_number (stand_of c.args.self.now) (search rules), stays (stand_of c.args.self.now) _ (search rules) refl (search rules))

pub returns-clause-steps : goal.returns-clause-steps
returns-clause-steps c = one_number c.args.self.now (record { rest = c.unwrap_or-self.result; further = c.is_some-self.result }) _ _ _ _ _ (search rules) c.digits_len.ensures.digits c.split_at.ensures.front c.split_at.ensures.back c.number.ensures c.strip_prefix-next.ensures.cases c.unwrap_or-self.ensures c.is_some-self.ensures

pub returns-clause-goes : goal.returns-clause-goes
returns-clause-goes c =
    progress numbers_left c.args.self.now (record { rest = c.unwrap_or-self.result; further = c.is_some-self.result }) c.number.result
    (left_after (stand_of c.args.self.now) (stand_of (record { rest = c.unwrap_or-self.result; further = c.is_some-self.result })) c.number.result (one_number c.args.self.now (record { rest = c.unwrap_or-self.result; further = c.is_some-self.result }) _ _ _ _ _ (search rules) c.digits_len.ensures.digits c.split_at.ensures.front c.split_at.ensures.back c.number.ensures c.strip_prefix-next.ensures.cases c.unwrap_or-self.ensures c.is_some-self.ensures))
