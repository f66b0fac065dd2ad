use Rattle.std.proofs.Common.{arith, ◌≡◌, ◌∙◌}
use Rattle.screen.proofs.Cells.{later_begin, later_turn, later_stop, later_end}
use Rattle.screen.proofs.row.behind_later.Goals as goal

pub loop-i-init : goal.loop-i-init
loop-i-init c = search later_begin

pub loop-i-preserved : goal.loop-i-preserved
loop-i-preserved c = search later_turn

pub returns-then-not-is_later : goal.returns-then-not-is_later
returns-then-not-is_later c = search later_stop

pub returns : goal.returns
returns c =
    let z : c.args.end ≡ c.loop-i.i = omega (arith, c.loop-i.auto.i-end c.requires.order) in
    z ∙ later_end _ _ _ _ c.requires _ c.loop-i.invariant c.loop-i-test.false
