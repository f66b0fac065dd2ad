use Rattle.show_io.proofs.Parameters.{color_index, color_rgb, color_none}
use Rattle.show_io.proofs.ansi.push_color.Goals as goal

pub returns-then-kind-eq1 : goal.returns-then-kind-eq1
returns-then-kind-eq1 c = search color_index

pub returns-then-kind-eq2 : goal.returns-then-kind-eq2
returns-then-kind-eq2 c = let e = c.before.before in
    let w = e.before in
    let d = w.before.before.before.before in
    let y = d.before in
    let k = y.before.before.before.before in
    let x = k.before in
    let b = x.before.before.before.before in
    let a = b.before.before.before.before in
    let two = a.before.before in
    let one = two.before in
    let kind = one.before in
    color_rgb _ _ _ _ kind.byte_at-kind.ensures _ _ _ _ _ _ _ _ _ one.if-kind-eq1.false two.if-kind-eq2.true x.byte_at-then-kind-eq2.ensures y.byte_at-then-kind-eq2-2.ensures w.byte_at-then-kind-eq2-3.ensures a.push_parameter-a-then-kind-eq2.ensures b.push_parameter-b-then-kind-eq2.ensures k.push_parameter-c.ensures d.push_parameter-d.ensures e.push_parameter-then-kind-eq2.ensures

pub returns : goal.returns
returns c = search color_none
