use Rattle.std.proofs.Common.{Some, None}
use Rattle.spans.specs.Sgr.Contracts.{stand, stand_of}
use Rattle.spans.proofs.Parameters.{orders_given, reading_begins, reading_ends, reading_goes_on, reading_order, reading_stops}
use Rattle.spans.proofs.sgr.Orders.next_order.Goals as goal

pub loop-p-init : goal.loop-p-init
loop-p-init c = reading_begins (stand c.args.self)

pub loop-p-preserved : goal.loop-p-preserved
loop-p-preserved c = reading_goes_on _ _ _ c.loop-p.invariant _ (stand_of c.next.new.self) c.in-Some.ensures.steps _ c.meaning_after.ensures _ c.in-Group.is

pub returns-in-Order-clause-exact : goal.returns-in-Order-clause-exact
returns-in-Order-clause-exact c = reading_order _ _ _ c.loop-p.invariant _ (stand_of c.next.new.self) c.in-Some.ensures.steps _ c.meaning_after.ensures _ c.in-Order.is

pub returns-in-Order-clause-orders : goal.returns-in-Order-clause-orders
returns-in-Order-clause-orders c =
    orders_given c.args.self (Some (c.in-Order.o, record { parameters = c.next.new.self }))
    (reading_order _ _ _ c.loop-p.invariant _ (stand_of c.next.new.self) c.in-Some.ensures.steps _ c.meaning_after.ensures _ c.in-Order.is)

pub returns-in-Unknown-clause-exact : goal.returns-in-Unknown-clause-exact
returns-in-Unknown-clause-exact c = reading_stops _ _ _ c.loop-p.invariant _ (stand_of c.next.new.self) c.in-Some.ensures.steps _ c.meaning_after.ensures c.in-Unknown.is

pub returns-in-Unknown-clause-orders : goal.returns-in-Unknown-clause-orders
returns-in-Unknown-clause-orders c = orders_given c.args.self None (reading_stops _ _ _ c.loop-p.invariant _ (stand_of c.next.new.self) c.in-Some.ensures.steps _ c.meaning_after.ensures c.in-Unknown.is)

pub returns-clause-exact : goal.returns-clause-exact
returns-clause-exact c = reading_ends _ _ _ c.loop-p.invariant c.in_default.ensures.steps.0

pub returns-clause-orders : goal.returns-clause-orders
returns-clause-orders c = orders_given c.args.self None (reading_ends _ _ _ c.loop-p.invariant c.in_default.ensures.steps.0)
