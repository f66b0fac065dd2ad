use Rattle.show_io.proofs.Refusals.{refused_pushed}
use Rattle.show_io.proofs.lines.push_refused.Goals as goal

pub returns : goal.returns
returns c = let e = c.before.before in
    let d = e.before.before.before.before in
    let k = d.before.before.before.before in
    let b = k.before.before.before.before.before in
    let a = b.before.before.before.before in
    refused_pushed _ _ _ _ _ _ _ a.push_elements-a.ensures b.push_decimal-b.ensures k.push_elements-c.ensures d.push_words-d.ensures e.push_element.ensures
