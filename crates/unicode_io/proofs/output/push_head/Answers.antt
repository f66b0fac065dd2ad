use Rattle.unicode_io.specs.Text.{ascii}
use Rattle.unicode_io.specs.Output.Laws.{head_pushed}
use Rattle.unicode_io.proofs.output.push_head.Goals as goal

pub returns : goal.returns
unfolding ascii
returns c = let c₁ = c.before.before in
    let c₂ = c₁.before.before.before.before.before in
    let c₃ = c₂.before.before.before.before in
    let c₄ = c₃.before.before.before.before.before in
    let c₅ = c₄.before.before.before.before in
    let c₆ = c₅.before.before.before.before.before in
    head_pushed _ _ _ _ _ _ _ _ _ c₆.push_gap-g.ensures c₅.push_elements-a.ensures c₄.push_decimal-b.ensures c₃.push_elements-c.ensures c₂.push_decimal-d.ensures c₁.push_elements.ensures
