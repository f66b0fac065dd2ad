use Rattle.std.proofs.Common.{refl, sym, ◌∙◌, rules}
use Rattle.drawing.proofs.Sequences.{linkable, sequence_past, sequence_sgr, sequence_link, sequence_missing, sequence_drawing, sequence_erase, sequence_else}
use Rattle.drawing.proofs.state.AttributeState.render_sequence.Goals as goal

pub returns-then-line-at : goal.returns-then-line-at
returns-then-line-at c = search sequence_past

pub render_hyperlink-requires : goal.render_hyperlink-requires
render_hyperlink-requires c = linkable _ _ _ c.requires c.if-line-at.false (sym c.in-Some.is ∙ c.sequence_at.ensures)

pub returns-in-Some : goal.returns-in-Some
returns-in-Some c = rw c.in-Hyperlink.is (sequence_link _ _ _ _ _ c.if-line-at.false _ _ refl (sym c.in-Some.is ∙ c.sequence_at.ensures) c.render_hyperlink.ensures)

pub returns-in_default-sequence_at : goal.returns-in_default-sequence_at
returns-in_default-sequence_at c = rw c.in-Hyperlink.is (sequence_missing _ _ _ _ _ c.if-line-at.false refl (sym c.in_default-sequence_at.is ∙ c.sequence_at.ensures))

pub returns-in-SgrSequence : goal.returns-in-SgrSequence
returns-in-SgrSequence c = rw c.in-SgrSequence.is (search (rules, sequence_sgr))

pub returns-in-LineDrawing : goal.returns-in-LineDrawing
returns-in-LineDrawing c = rw c.in-LineDrawing.is (search (rules, sequence_drawing))

pub returns-in-EraseToEndOfLine : goal.returns-in-EraseToEndOfLine
returns-in-EraseToEndOfLine c = rw c.in-EraseToEndOfLine.is (search (rules, sequence_erase))

pub returns-in_default : goal.returns-in_default
returns-in_default c = search sequence_else
