use Rattle.std.proofs.Common.{arith, ◌≡◌, ◌+◌, ◌-◌}
use Rattle.screen.proofs.Bytes.{blanks_begin, blanks_turn, blanks_end}
use Rattle.screen.proofs.output.write_blanks.Goals as goal

pub loop-init : goal.loop-init
loop-init c = let e : c.args.count - 0 ≡ c.args.count = omega arith in rw e (search blanks_begin)

pub loop-preserved : goal.loop-preserved
loop-preserved c =
    let e : c.args.count - (c.loop.counter + 1) ≡ c.args.count - c.loop.counter - 1 = omega arith in
    rw e (blanks_turn _ _ _ _ _ _ _ _ c.loop.invariant _ _ (omega arith) c.write_blank-at.ensures c.write_blank-at.auto.out)

pub returns : goal.returns
returns c = blanks_end _ _ _ _ _ _ _ _ c.loop.invariant (omega arith)
