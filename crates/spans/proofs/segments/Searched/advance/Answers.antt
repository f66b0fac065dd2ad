use Rattle.spans.proofs.SegmentCursor.{going_inside, going_on, going_outside}
use Rattle.spans.proofs.segments.Searched.advance.Goals as goal

pub outside-requires : goal.outside-requires
outside-requires c = search going_inside

pub returns-in-Match : goal.returns-in-Match
returns-in-Match c = search going_on

pub inside-requires : goal.inside-requires
inside-requires c = search going_outside
