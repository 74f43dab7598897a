use Rattle.whips_order.proofs.Counting.{concerned_more}
use Rattle.whips_order.proofs.integrator.concerned_by.Goals as goal

pub loop-x-preserved : goal.loop-x-preserved
loop-x-preserved c = concerned_more c.args.update.now c.args.setup.now.views c.loop-x.x c.view.result.now c.loop-x.concerned.items c.add_concerned.new.concerned.items c.view.ensures c.loop-x.invariant c.in_ok-add_concerned.ensures
