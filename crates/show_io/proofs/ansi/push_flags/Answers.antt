use Rattle.show_io.proofs.Parameters.{five}
use Rattle.show_io.proofs.ansi.push_flags.Goals as goal

pub returns : goal.returns
returns c = let e = c.before.before in
    let d = e.before.before.before.before in
    let k = d.before.before.before.before in
    let b = k.before.before.before.before in
    let a = b.before.before.before.before in
    five _ _ _ _ _ _ _ _ _ _ _ a.push_flag-a.ensures b.push_flag-b.ensures k.push_flag-c.ensures d.push_flag-d.ensures e.push_flag.ensures
