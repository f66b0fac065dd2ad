use Rattle.screen.proofs.Bodies.{kind_text, kind_attributes, kind_clear, kind_right, kind_unknown}
use Rattle.std.proofs.Common.{arith}
use Rattle.screen.proofs.body.is_of_kind.Goals as goal

pub returns-in-1 : goal.returns-in-1
returns-in-1 c = search kind_text

pub returns-in-2 : goal.returns-in-2
returns-in-2 c = search kind_attributes

pub returns-in-3 : goal.returns-in-3
returns-in-3 c = search kind_clear

pub returns-in-4 : goal.returns-in-4
returns-in-4 c = search kind_right

pub returns-in_default : goal.returns-in_default
returns-in_default c = kind_unknown _ _ _ (λ e. omega arith) (λ e. omega arith) (λ e. omega arith) (λ e. omega arith)
