use Rattle.std.proofs.Common.{ap, map}
use Rattle.whips_core.specs.Queues.{input_of}
use Rattle.whips_core.proofs.Started.{manager_is, managers_next}
use Rattle.whips_core.proofs.queues.managers_of.Goals as goal

pub loop-x-preserved : goal.loop-x-preserved
loop-x-preserved c =
    managers_next c.args.setup.now.views c.loop-x.x c.view.result.now c.loop-x.managers.items c.push.new.self.items _ c.loop-x.invariant c.view.ensures
    (manager_is c.loop-x.x c.view.result.now c.in_ok-new.field-0 (map input_of c.new-in-loop-x.result.items) c.new-in-loop-x-2.result.items c.in_ok-new.ensures (ap (map input_of) c.new-in-loop-x.ensures.items) c.new-in-loop-x-2.ensures.items)
    c.in_ok-push.ensures.items
