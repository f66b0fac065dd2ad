use Rattle.spans.proofs.PrintableBytes.{printable_left, printable_all}
use Rattle.spans.proofs.reader.printable_end.Goals as goal

pub returns-then-at-end : goal.returns-then-at-end
returns-then-at-end c = printable_left _ _ _ c.requires _ c.bytes_from.ensures _ c.printable_len.ensures.printable _ c.byte_at.ensures c.if-at-end.true

pub returns : goal.returns
returns c = printable_all _ _ _ c.requires _ c.bytes_from.ensures _ c.printable_len.ensures.printable _ c.byte_at.ensures c.if-at-end.false
