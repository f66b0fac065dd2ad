use Rattle.std.proofs.Common.{length}
use Rattle.spans.specs.Segments.{segments_left}
use Rattle.spans.proofs.SegmentCursor.{RecordsLoop}
use Rattle.spans.proofs.segments.RecordsIterator.next.Given as goal

abbrev pub invariant-loop-self : goal.invariant-loop-self
invariant-loop-self l = RecordsLoop l.initial.self l.self

abbrev pub decreases-loop-self : goal.decreases-loop-self
decreases-loop-self l = segments_left (length l.self.searched.matches.now) l.self.cursor
