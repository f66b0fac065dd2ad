use Rattle.show_io.proofs.Parameters.{style_pushed}
use Rattle.show_io.proofs.ansi.push_style.Goals as goal

pub returns : goal.returns
returns c = let m = c.before.before in
    let e = m.before.before.before.before in
    let y = e.before in
    let d = y.before.before.before.before in
    let k = d.before.before.before.before in
    let x = k.before in
    let b = x.before.before.before.before in
    let a = b.before.before.before.before in
    style_pushed _ _ _ _ _ _ _ _ _ _ x.byte_at.ensures y.byte_at-2.ensures a.push_elements-a.ensures b.push_font-b.ensures k.push_flags-c.ensures d.push_colors-d.ensures e.push_value-e.ensures m.push_element.ensures
