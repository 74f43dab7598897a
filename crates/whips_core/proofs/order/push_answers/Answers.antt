use Rattle.std.proofs.Common.{[], ◌∷◌, ◌++◌, ap, ◌∙◌}
use Rattle.whips_core.specs.Groups.{answers_of}
use Rattle.whips_core.proofs.Orders.{mapped_next}
use Rattle.whips_core.proofs.order.push_answers.Goals as goal

pub loop-y-preserved : goal.loop-y-preserved
loop-y-preserved c = mapped_next (answers_of c.args.views) c.args.groups.now.items c.loop-y.groups.items c.push.new.self.items c.loop-y.y c.loop-y.invariant (c.in_ok-push.ensures.items ∙ ap (λ g. c.loop-y.groups.items ++ g ∷ []) c.group.ensures)
