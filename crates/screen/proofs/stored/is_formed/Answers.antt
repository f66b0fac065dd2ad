use Rattle.std.proofs.Common.{rules}
use Rattle.screen.proofs.Storing.{body_inside, formed_body}
use Rattle.screen.proofs.stored.is_formed.Goals as goal

pub overflow_add-start : goal.overflow_add-start
overflow_add-start c = let h = body_inside c.before.before.before.args.list.now c.before.before.before.args.head c.before.before.before.requires c.before.if-head.true in search (rules, h)

pub slice_bounds-is_of_kind-end : goal.slice_bounds-is_of_kind-end
slice_bounds-is_of_kind-end c = search body_inside

pub returns-then-head : goal.returns-then-head
returns-then-head c = search formed_body
