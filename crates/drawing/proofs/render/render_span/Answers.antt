use Rattle.drawing.proofs.SpanKinds.{span_text, span_match, span_byte, span_tab, span_marks, span_sequence, span_none}
use Rattle.drawing.proofs.render.render_span.Goals as goal

pub returns-in_default : goal.returns-in_default
returns-in_default c = search (span_none, c.in_default.ensures)

pub returns-in-Text : goal.returns-in-Text
returns-in-Text c = search (span_text, c.in-Some.ensures)

pub returns-in-Match : goal.returns-in-Match
returns-in-Match c = search (span_match, c.in-Some.ensures)

pub returns-in-Control : goal.returns-in-Control
returns-in-Control c = search (span_byte, c.in-Some.ensures)

pub returns-in-Unprintable : goal.returns-in-Unprintable
returns-in-Unprintable c = search (span_marks, c.in-Some.ensures)

pub returns-in-Tab : goal.returns-in-Tab
returns-in-Tab c = search (span_tab, c.in-Some.ensures)

pub returns-in_default-kind : goal.returns-in_default-kind
returns-in_default-kind c = search (span_sequence, c.in-Some.ensures)
