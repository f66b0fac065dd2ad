use Rattle.spans.proofs.Searching.{offset_ends, offset_here, offset_again}
use Rattle.spans.proofs.search.Offsets.convert.Goals as goal

pub returns-then-o-x : goal.returns-then-o-x
returns-then-o-x c = offset_here _ _ _ _ c.loop-o.invariant _ c.in-Some.is c.if-o-x.true

pub loop-o-preserved : goal.loop-o-preserved
loop-o-preserved c = offset_again _ _ _ _ c.loop-o.invariant _ c.in-Some.is _ c.if-o-x.false c.next_escape.ensures

pub returns : goal.returns
returns c = offset_ends _ _ _ _ c.loop-o.invariant c.in_default.is
