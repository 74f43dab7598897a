use Rattle.whips_gen.proofs.Updates.{deleted_is}
use Rattle.whips_gen.proofs.picks.make_order.Goals as goal

pub returns-in-Ok-clause-orders : goal.returns-in-Ok-clause-orders
returns-in-Ok-clause-orders c = deleted_is c.args.orders.now c.delete-2.new.self _ c.in-Ok.order c.in-Ok.ensures.row c.in-Ok.ensures.ok
