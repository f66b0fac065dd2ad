use Rattle.rows_io.proofs.Lines.{row_pushed}
use Rattle.rows_io.proofs.output.push_row.Goals as goal

pub returns : goal.returns
returns c = let c₁ = c.before.before in
    let c₂ = c₁.before.before.before.before in
    let c₃ = c₂.before.before.before.before in
    let c₄ = c₃.before.before.before.before in
    let c₅ = c₄.before.before.before.before in
    let c₆ = c₅.before.before.before.before in
    row_pushed _ _ _ _ _ _ _ _ _ _ c₆.push_decimal-a.ensures c₅.push_element-b.ensures c₄.push_decimal-c.ensures c₃.push_element-d.ensures c₂.push_decimal-e.ensures c₁.push_element.ensures
