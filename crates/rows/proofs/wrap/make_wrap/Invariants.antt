use Rattle.text.specs.Class.Code.{profile_of}
use Rattle.rows.proofs.WrappedSpans.{Spanning}
use Rattle.rows.proofs.wrap.make_wrap.Given as goal

abbrev pub invariant-loop-span : goal.invariant-loop-span
invariant-loop-span l = Spanning (profile_of l.wrapping.profile) l.wrapping.width.0 l.wrapping.mode l.line l.spans l.initial.rows l.fn.state l.span-index l.rows l.state
